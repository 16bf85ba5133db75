-- The root of the definitions.
pub mod Table
pub mod Elimination
pub mod RoundCount
pub mod RightSide
pub mod RoundedDown
pub mod Generators
pub mod Gathering
pub mod Within
pub mod Theorems
pub mod RowSteps
pub mod Choices
pub mod Tails
pub mod ColumnPass
pub mod LentTable
