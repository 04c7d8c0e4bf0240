-- The statements on what an hour holds, whatever the calls.
pub mod Slots
pub mod Views
pub mod Ledger
pub mod Laws
pub mod Readings
pub mod Mitigation
pub mod Promises
pub mod Listing
