-- The laws that the proofs of the soundness test use.
pub mod Totals
pub mod Tests
pub mod Laws
