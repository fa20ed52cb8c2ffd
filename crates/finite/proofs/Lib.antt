-- The laws of the definitions, for every layer above.
pub mod Bools
pub mod Below
pub mod Reach
pub mod Select
pub mod Loops
pub mod Packed
pub mod Totals
pub mod Stores
pub mod Those
pub mod Lists
