-- What the functions of clear work on.
pub mod Repairing
