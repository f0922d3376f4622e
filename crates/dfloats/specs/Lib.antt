pub mod FirstWord
pub mod Fields
pub mod Reading
pub mod Nearest
pub mod Promises
