pub mod Puts
pub mod Walks
pub mod Places
pub mod Replies
pub mod All
pub mod Small
