-- Document 01, "Image", and document 02, W1 and W5 to W7, as a table of examples.
pub mod Samples
