-- What the search by withdrawing keeps to, and when it serves a clearing.
pub mod Search
pub mod Withdraw
