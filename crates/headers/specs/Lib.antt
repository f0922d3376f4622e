pub mod Header
pub mod Checks
pub mod Flags
