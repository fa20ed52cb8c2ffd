-- Where links count, laws of the search, and what it finds in a table.
pub mod Slots
pub mod Laws
pub mod Found
pub mod Doubtful
