pub mod LookUp
pub mod Live
pub mod Table
pub mod Finding
