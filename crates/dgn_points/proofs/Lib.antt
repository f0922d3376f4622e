pub mod Places
pub mod Fits
pub mod Replies
pub mod All
pub mod Small
