pub mod Leaves
pub mod Drawing
pub mod Ended
pub mod SessionEnds
pub mod Links
pub mod Wholes
