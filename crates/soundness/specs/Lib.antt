-- The soundness test in code: what its parts say.
pub mod Tests
