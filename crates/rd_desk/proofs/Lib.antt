pub mod Notes
pub mod Ids
pub mod Orderly
pub mod At
pub mod Noted
