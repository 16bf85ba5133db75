-- The root of the definitions.
pub mod Calls
pub mod Joins
pub mod Previews
pub mod Reads
pub mod Version
