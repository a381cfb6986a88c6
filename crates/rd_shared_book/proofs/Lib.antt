pub mod Keys
pub mod Appended
pub mod Counting
pub mod Learning
pub mod Telling
pub mod Lending
