pub mod Keys
pub mod Answers
pub mod Rows
pub mod Lists
pub mod Unknown
pub mod Settings
pub mod Defaults
pub mod Ports
