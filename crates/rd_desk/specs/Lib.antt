pub mod Notes
pub mod Desk
pub mod Noted
