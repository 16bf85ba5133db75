-- The root of the laws that the proofs cite.
pub mod Laws
pub mod Rule
pub mod Cases
pub mod OneGoal
