pub mod Leaving
pub mod Ran
pub mod Links
pub mod Logs
pub mod Whole
