pub mod Floats
pub mod Digits
pub mod Heard
pub mod Words
pub mod HeadWords
