-- The root of the laws that the proofs cite.
pub mod Ones
pub mod Turns
pub mod Lines
pub mod Rows
pub mod Reading
pub mod Sums
pub mod Extending
pub mod Cases
