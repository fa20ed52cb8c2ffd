-- Document 01, "Image", and document 02, W1, W5, W6 and W7, as definitions.
pub mod Convert
pub mod Image
pub mod Slip
