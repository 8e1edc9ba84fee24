pub mod Laws
pub mod Curves
pub mod OfRun
pub mod Unique
