pub mod Heads
pub mod Alike
pub mod Tops
pub mod Tours
pub mod Puts
pub mod Replies
pub mod All
pub mod Small
