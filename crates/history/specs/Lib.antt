-- Document 01, "A history", as definitions, what a call and its refusal do in numbers, and the statements of the demands.
pub mod History
pub mod Accounts
pub mod Acts
pub mod Demands
