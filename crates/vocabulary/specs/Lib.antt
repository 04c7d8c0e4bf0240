-- The statements on the words of the market and on what a resource's record says.
pub mod Numbers
pub mod Tests
pub mod Orders
pub mod Verdicts
pub mod Readings
pub mod Conditions
pub mod Empty
