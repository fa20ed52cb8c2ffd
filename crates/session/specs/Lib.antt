-- What the program `keys` writes, and how it works in blocks (document 01, "Keys").
pub mod Puts
pub mod Session
