pub mod Settles
pub mod Ways
pub mod Taking
pub mod Cuts
pub mod Joins
pub mod Calls
