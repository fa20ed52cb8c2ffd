-- The examples of calls hold.
pub mod Examples
