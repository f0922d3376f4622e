pub mod Linkages
pub mod Listed
pub mod Linkage
