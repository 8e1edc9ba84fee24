pub mod Text
pub mod OfRun
