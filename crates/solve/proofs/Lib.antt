-- The root of the laws that the proofs cite.
pub mod Laws
pub mod Cases
pub mod Listed
pub mod Swept
