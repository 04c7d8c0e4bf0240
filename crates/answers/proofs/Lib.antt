pub mod Listing
pub mod Unfound
