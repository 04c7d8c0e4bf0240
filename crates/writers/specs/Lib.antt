-- The statements on writing.
pub mod Buffers
pub mod Backs
pub mod Reads
