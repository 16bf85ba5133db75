-- The root of the definitions.
pub mod Rules
pub mod Sections
pub mod StatedColumns
pub mod SectionsRead
