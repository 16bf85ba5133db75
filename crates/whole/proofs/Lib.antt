-- The root of the laws that the proofs cite.
pub mod Tests
pub mod Lists
pub mod Signed
pub mod Euclid
pub mod Counted
pub mod Never
pub mod Integers
pub mod Writing
pub mod Nearest
pub mod BitLength
