-- Document 01 as definitions: the table, sound, the calls, the plain plan; and document 02's preview, squeeze, trial
-- and clearings in two orders; and who can be rung.
pub mod Table
pub mod Cabins
pub mod Sound
pub mod Said
pub mod Answer
pub mod Calls
pub mod Clear
pub mod Preview
pub mod Squeeze
pub mod Trial
pub mod Rung
pub mod Plan
pub mod Orders
