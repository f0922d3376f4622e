pub mod Slices
pub mod Puts
pub mod Places
pub mod Small
pub mod Replies
pub mod All
