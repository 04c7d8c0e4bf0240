-- The statements on what is found of one resource.
pub mod Answers
pub mod Lines
pub mod Shares
pub mod Assembling
