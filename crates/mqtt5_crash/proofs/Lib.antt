pub mod Topics
pub mod Near
pub mod Loading
pub mod Sessions
pub mod Whole
pub mod Counting
pub mod Crashing
