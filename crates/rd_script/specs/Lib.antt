pub mod Script
pub mod Seen
pub mod Printed
pub mod Generator
