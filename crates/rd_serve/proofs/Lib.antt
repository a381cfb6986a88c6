pub mod Telling
pub mod Times
pub mod Outs
pub mod Counted
pub mod Visits
pub mod Noting
pub mod Answering
pub mod Live
mod Booking
