-- What the definitions of the table are written in: numbers below a bound, and chains.
pub mod Below
pub mod Reach
