pub mod Firsts
pub mod Counts
pub mod Marks
pub mod Pushes
pub mod Calls
