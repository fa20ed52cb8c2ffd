-- The laws that the proofs of several functions cite, here and above.
pub mod Laws
