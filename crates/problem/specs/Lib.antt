-- The root of the definitions.
pub mod Limits
pub mod References
pub mod Kinds
pub mod Answers
pub mod Checks
