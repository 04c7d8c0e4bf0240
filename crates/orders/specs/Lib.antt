-- The statements on the lines that are compared.
pub mod Lines
