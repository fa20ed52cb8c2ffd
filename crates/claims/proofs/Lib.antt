-- Everything that is claimed.
pub mod Keys
pub mod Refusals
pub mod Claims
