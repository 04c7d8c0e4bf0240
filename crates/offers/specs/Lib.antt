-- The statements on mitigated offers.
pub mod Rows
