-- The root of the definitions.
pub mod Volumes
pub mod PathLines
pub mod Sweeping
pub mod VolumesRead
