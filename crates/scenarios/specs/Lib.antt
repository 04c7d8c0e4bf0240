-- The statements on scenarios.
pub mod Agreement
