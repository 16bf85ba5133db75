-- The root of the laws that the proofs cite.
pub mod Roots
pub mod Bits
pub mod OneGoal
pub mod Cases
