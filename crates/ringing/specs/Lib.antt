-- What the search works on.
pub mod Row
