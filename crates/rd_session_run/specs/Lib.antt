pub mod Runs
pub mod Transcripts
pub mod Summaries
pub mod Counting
