-- The statements on histories.
pub mod Acts
pub mod Documents
pub mod Histories
