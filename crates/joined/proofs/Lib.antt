-- The root of the laws that the proofs cite.
pub mod RowLaws
pub mod Laying
pub mod Filling
pub mod JoinedLists
pub mod Passing
pub mod Every
pub mod JoinedColumns
pub mod SpreadRows
pub mod Shares
pub mod Fitting
pub mod Cases
