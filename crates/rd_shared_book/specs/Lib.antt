pub mod Keys
pub mod Books
