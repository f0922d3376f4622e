pub mod Tour
pub mod Views
pub mod Answers
pub mod Calls
