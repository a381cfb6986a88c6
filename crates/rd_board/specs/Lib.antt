pub mod Notes
pub mod Calls
pub mod Latest
pub mod Board
