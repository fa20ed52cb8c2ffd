-- The laws that the proofs of several functions cite.
pub mod Stored
pub mod Loading
