-- The root of the definitions.
pub mod Assign
pub mod Replies
pub mod BasisPlace
pub mod Finish
pub mod Standing
pub mod Demand
pub mod Handed
pub mod OneGoal
pub mod Outcomes
pub mod Stride
pub mod Preview
pub mod Ceiling
pub mod Ground
pub mod Showing
