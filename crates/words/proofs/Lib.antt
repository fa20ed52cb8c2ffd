-- Laws of words and tables, which the crates above cite.
pub mod Laws
pub mod Refusals
pub mod Formed
pub mod Becomes
mod Cut
pub mod Fields
pub mod Chains
