-- The statements on bounds.
pub mod Ranges
pub mod Lines
pub mod Meanings
