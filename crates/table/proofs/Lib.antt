pub mod Keeping
pub mod Records
pub mod Rows
pub mod Tables
pub mod Empties
pub mod Fullness
pub mod Filling
pub mod Saying
