-- The root of the definitions.
pub mod Columns
pub mod Packing
pub mod Seating
pub mod Moves
pub mod Measures
pub mod Steps
pub mod Rankings
pub mod Settle
pub mod Verdicts
pub mod Strides
pub mod Laid
pub mod Views
pub mod Ready
pub mod Sizes
pub mod Seats
