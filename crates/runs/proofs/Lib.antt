-- The root of the laws.
pub mod Lowering
pub mod Steps
pub mod Runs
pub mod CallRuns
pub mod Cases
