pub mod Cutting
pub mod Pairs
pub mod Gathering
pub mod Taking
pub mod Wholes
