pub mod Held
mod Sent
mod Steps
mod Ruled
mod Sums
mod Events
