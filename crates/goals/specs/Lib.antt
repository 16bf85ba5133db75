-- The root of the definitions.
pub mod Ideals
pub mod Wishes
pub mod OneGoal
