-- The laws of the records, for this crate and those above.
pub mod Compare
pub mod Laws
pub mod Reading
