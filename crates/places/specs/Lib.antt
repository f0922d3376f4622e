pub mod Places
pub mod Descent
pub mod Extents
pub mod OfType
pub mod Extent
pub mod Placed
pub mod Spotted
