-- The laws that the proofs of several functions cite, here and in the crates above.
pub mod Counting
