pub mod Over
pub mod Stored
pub mod Fits
pub mod Laws
