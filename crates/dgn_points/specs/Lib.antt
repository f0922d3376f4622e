pub mod Points
pub mod Answers
pub mod Calls
