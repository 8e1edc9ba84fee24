pub mod Feed
pub mod Past
pub mod Refused
pub mod Alike
