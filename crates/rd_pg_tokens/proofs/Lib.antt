pub mod NamedColumns
pub mod Ranges
pub mod Further
pub mod Nexts
