pub mod Lines
pub mod Texts
pub mod Plates
pub mod Told
pub mod Puts
