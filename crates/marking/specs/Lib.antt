-- What marks are set by.
pub mod Marking
