pub mod Line
pub mod Demands
pub mod Examples
