pub mod Calls
pub mod Learns
pub mod Rules
