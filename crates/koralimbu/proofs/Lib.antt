-- The root of the laws that the proofs cite.
pub mod CallLaws
pub mod ReadLaws
pub mod PreviewLaws
pub mod JoinLaws
pub mod Cases
