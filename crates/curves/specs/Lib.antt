-- The statements on curves.
pub mod Steps
pub mod Curves
pub mod Rows
