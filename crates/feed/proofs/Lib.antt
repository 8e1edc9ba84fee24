pub mod Laws
pub mod Pieces
pub mod Refused
pub mod Alike
pub mod Runs
pub mod Loop
pub mod Unique
