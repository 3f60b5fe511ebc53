pub mod Trace
pub mod Run
pub mod Calls
pub mod Ways
pub mod Limit
