pub mod Entries
pub mod Sinks
pub mod Drawn
pub mod Books
pub mod Turns
pub mod Acts
pub mod Runs
