-- What the proofs of this crate's functions share, and the law of the whole output.
pub mod Laws
pub mod Output
