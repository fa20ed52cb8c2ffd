-- Quotas and charges in code: what the functions give back.
pub mod Shares
