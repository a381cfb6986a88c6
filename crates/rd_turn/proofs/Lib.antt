pub mod Writes
pub mod Asked
pub mod Turning
pub mod ActSteps
pub mod RunSteps
