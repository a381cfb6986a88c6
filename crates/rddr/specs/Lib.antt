pub mod Forms
pub mod Outcome
pub mod Works
pub mod Serving
