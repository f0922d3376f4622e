pub mod Others
pub mod Made
pub mod Ways
pub mod Numbers
pub mod Parts
pub mod Back
pub mod Calls
