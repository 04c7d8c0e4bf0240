pub mod Walks
pub mod Substitutes
