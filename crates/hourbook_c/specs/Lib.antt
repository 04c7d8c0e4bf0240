-- The statements on scripts in bytes.
pub mod Scripts
