pub mod Slices
pub mod Puts
pub mod Places
pub mod Replies
pub mod All
pub mod Small
