-- The root of the laws that the proofs cite.
pub mod Staircase
pub mod Sweeping
pub mod Parting
pub mod Zeros
pub mod Answers
pub mod SolveLaws
