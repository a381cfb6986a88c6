mod Asked
mod Causes
mod Counting
mod Links
mod Coming
mod Naming
pub mod Answered
