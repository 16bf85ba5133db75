-- The root of the definitions.
pub mod Tokens
pub mod Positions
pub mod Decimals
pub mod Overwriting
