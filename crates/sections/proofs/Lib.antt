-- The root of the laws that the proofs cite.
pub mod Numbers
pub mod Parts
pub mod Storage
pub mod Limits
pub mod Extending
pub mod Cases
