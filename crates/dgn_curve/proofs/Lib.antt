pub mod Done
pub mod Small
