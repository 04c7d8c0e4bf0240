mod Spelling
pub mod Lending
mod Backs
