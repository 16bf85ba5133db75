-- The root of the laws that the proofs cite.
pub mod Scanning
pub mod Copying
pub mod Digits
