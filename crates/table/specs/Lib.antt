-- The statements on the table of an hour.
pub mod Ranges
pub mod Holding
pub mod Tables
