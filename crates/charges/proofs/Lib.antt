pub mod Totals
pub mod Shares
pub mod Findings
