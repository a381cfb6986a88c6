pub mod Reaches
pub mod Made
