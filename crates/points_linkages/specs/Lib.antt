pub mod Points
pub mod Coordinates
pub mod Linkages
pub mod Listed
pub mod PointAnswers
