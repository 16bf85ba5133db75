-- The root of the definitions.
pub mod Posing
pub mod Reader
pub mod ReaderTables
pub mod Older
