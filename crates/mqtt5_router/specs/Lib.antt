pub mod Kept
pub mod Topics
