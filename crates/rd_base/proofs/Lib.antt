pub mod Cutting
pub mod Lookups
pub mod WordRows
pub mod SharedRows
pub mod MemWrites
pub mod Given
pub mod Ticking
