pub mod Bytes
pub mod Wholes
pub mod Stepping
pub mod Backs
pub mod Streaming
