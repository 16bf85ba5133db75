-- The root of the definitions.
pub mod Rows
pub mod Sums
pub mod Span
pub mod Hermite
pub mod Coset
