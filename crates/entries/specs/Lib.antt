-- The statements on entries and files.
pub mod Sections
pub mod Table
pub mod Entries
pub mod Files
