pub mod Runs
pub mod Statements
pub mod Spans
pub mod Refusing
pub mod Needed
pub mod Bench
