pub mod Errors
pub mod Answers
pub mod Format
pub mod Saving
