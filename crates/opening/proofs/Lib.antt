pub mod Opening
pub mod Accepted
pub mod Steps
pub mod OpenSession
pub mod Pushed
pub mod Beside
