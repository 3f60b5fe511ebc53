pub mod Marks
pub mod Index
pub mod Gathering
