pub mod Parts
pub mod RoundTrip
