pub mod Notes
pub mod Keeping
pub mod Stores
pub mod Laws
