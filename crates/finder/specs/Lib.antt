pub mod Finder
pub mod Base
pub mod Look
pub mod Meaning
pub mod Found
