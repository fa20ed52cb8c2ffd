-- The words of a table, and the table of words; marks of steps.
pub mod Words
pub mod Marks
