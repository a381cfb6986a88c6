pub mod Spawners
pub mod MemSpawners
pub mod Start
pub mod Way
pub mod Back
