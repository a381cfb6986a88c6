pub mod Faulty
pub mod LinkSends
pub mod OwnAfter
pub mod Counted
pub mod Tallied
pub mod Asked
pub mod Taken
pub mod WantedSteps
pub mod Planned
pub mod Moves
pub mod Faces
mod Looked
mod Quieted
mod Alone
mod Watched
