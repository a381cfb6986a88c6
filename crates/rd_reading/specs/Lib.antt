pub mod Room
pub mod Heard
pub mod Whole
pub mod Seen
pub mod Alike
pub mod Fronts
pub mod Looks
pub mod Extents
