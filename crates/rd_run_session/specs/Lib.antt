pub mod Left
pub mod Dialects
pub mod CameTo
pub mod Asking
pub mod Holding
pub mod Counted
pub mod Laws
