-- What the tests of the examples mean, and what they compute with.
pub mod Laws
pub mod Computes
