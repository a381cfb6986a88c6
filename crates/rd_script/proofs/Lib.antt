mod Parts
mod Numbers
mod ToldRows
mod Lines
mod Kept
mod Sixteen
mod Generated
pub mod Entries
pub mod LineNumbers
