-- The root of the definitions.
pub mod Sorted
pub mod Runs
pub mod CallRuns
