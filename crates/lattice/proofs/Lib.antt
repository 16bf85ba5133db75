-- The root of the laws that the proofs cite.
pub mod Scanning
pub mod LentParts
pub mod Coset
pub mod Span
pub mod Hermite
pub mod RowLaws
pub mod FlatLaws
pub mod RowsAhead
pub mod SumLaws
