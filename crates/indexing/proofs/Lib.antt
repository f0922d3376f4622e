pub mod Fills
pub mod Builds
pub mod Lists
pub mod Puts
