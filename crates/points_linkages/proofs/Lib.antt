pub mod Numbered
pub mod Coordinates
pub mod Refusals
pub mod Listed
