-- The root of the definitions.
pub mod Lists
pub mod Tests
pub mod Quotient
pub mod Divisor
pub mod BitLength
