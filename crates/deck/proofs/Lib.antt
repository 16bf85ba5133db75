-- The root of the laws that the proofs cite.
pub mod Lists
pub mod Handing
pub mod Whole
pub mod Pairs
pub mod Older
