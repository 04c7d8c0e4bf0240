-- The statements on a line of a listing.
pub mod Lengths
pub mod Wholes
