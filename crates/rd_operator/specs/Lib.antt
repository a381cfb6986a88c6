pub mod Routes
pub mod Asked
pub mod HeadWords
pub mod Texts
pub mod Replies
pub mod Hearing
pub mod Calls
