pub mod Descent
pub mod Places
pub mod Nearest
pub mod Refusals
pub mod OfType
