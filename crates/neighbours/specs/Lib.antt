-- The root of the definitions.
pub mod Neighbours
pub mod Beside
pub mod Sheets
pub mod Rule
pub mod OneGoal
