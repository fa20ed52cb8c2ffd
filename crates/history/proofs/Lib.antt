-- The laws of histories, and the demands; the crate `claims` restates what is claimed.
pub mod Demand1
pub mod Agree
pub mod Demand2
pub mod Slips
pub mod Demand3
pub mod Accounts
pub mod Listing
pub mod Preview
pub mod Rung
