-- The root of the laws that the proofs cite.
pub mod Causes
pub mod Made
pub mod Filled
pub mod Paired
pub mod Shares
pub mod Meeting
pub mod Counts
pub mod SharedColumns
pub mod Cases
