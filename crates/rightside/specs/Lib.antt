-- The root of the definitions.
pub mod Solutions
pub mod Sweeps
