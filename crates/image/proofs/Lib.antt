-- The laws of the image, for every layer above; Laws states those that are claimed.
pub mod Exits
pub mod Words
pub mod Bits
pub mod Written
pub mod Loaded
pub mod RoundTrip
pub mod Rewritten
pub mod Order
pub mod Laws
pub mod Converted
pub mod Slips
pub mod Placed
pub mod TakenBack
