-- The examples of images and slips hold.
pub mod Samples
