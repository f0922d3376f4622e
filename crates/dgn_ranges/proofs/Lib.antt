pub mod Puts
pub mod Replies
pub mod All
pub mod Small
