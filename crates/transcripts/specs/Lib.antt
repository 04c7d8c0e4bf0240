-- The statements on the answers to a script.
pub mod Replies
pub mod Transcripts
