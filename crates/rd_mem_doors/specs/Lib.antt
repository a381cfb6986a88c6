pub mod MemDoors
