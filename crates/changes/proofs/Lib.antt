pub mod Steps
pub mod Kept
pub mod Found
pub mod Made
pub mod NameSteps
