-- The statements on scripts.
pub mod Texts
pub mod Digits
pub mod Commands
pub mod Ranges
pub mod Scripts
