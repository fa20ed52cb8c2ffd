-- Document 01, "Keys", as definitions.
pub mod Keys
