-- The root of the definitions of the search.
pub mod Sets
pub mod Given
pub mod Searches
pub mod Numbers
pub mod Notes
pub mod Probes
pub mod Progress
pub mod Sorting
pub mod Kept
pub mod Ranked
pub mod Turning
pub mod Working
