pub mod Seats
pub mod Books
pub mod Answers
pub mod Lending
