pub mod Doubles
pub mod CurvePoints
pub mod Unique
