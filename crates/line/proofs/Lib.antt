-- The laws of the dispatcher, and its examples.
pub mod Laws
pub mod Served
pub mod Uses
pub mod Busy
pub mod Examples
