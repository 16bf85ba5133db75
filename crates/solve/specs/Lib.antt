-- The root of the definitions.
pub mod Program
pub mod Cases
pub mod GoalCases
pub mod RoundCases
pub mod Swept
