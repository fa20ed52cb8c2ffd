-- Document 01, "Edits on F4" and "Reasons for no", as a table of examples.
pub mod Examples
