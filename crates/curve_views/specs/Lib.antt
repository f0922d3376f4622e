pub mod CurveViews
pub mod Promises
