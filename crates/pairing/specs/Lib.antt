-- The root of the definitions.
pub mod Parts
pub mod Pairs
