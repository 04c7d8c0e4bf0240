-- The rules of groups and charges.
pub mod Tables
pub mod Groups
pub mod Charges
pub mod Findings
pub mod Lawful
