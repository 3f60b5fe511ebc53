pub mod Marking
pub mod Ranges
pub mod Walking
