-- Definitions.
pub mod Refusals
