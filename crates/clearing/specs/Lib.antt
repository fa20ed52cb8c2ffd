-- What the functions of clear hand to each other.
pub mod Clearing
