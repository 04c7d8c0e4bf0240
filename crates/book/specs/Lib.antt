-- The statements on books.
pub mod Ledgers
pub mod Questions
pub mod Rows
