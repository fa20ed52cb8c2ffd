-- What is claimed of the program `keys`.
pub mod Keys
