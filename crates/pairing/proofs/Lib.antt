-- The root of the laws that the proofs cite.
pub mod Walking
pub mod Orders
pub mod Partners
pub mod Cases
