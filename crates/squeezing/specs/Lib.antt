-- Definitions.
pub mod Moves
