pub mod Comparing
pub mod Filled
