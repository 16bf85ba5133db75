-- The root of the definitions.
pub mod Join
pub mod Filled
pub mod Shares
