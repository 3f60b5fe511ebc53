pub mod Wire
pub mod Cuts
pub mod Steps
pub mod Runs
pub mod Answered
pub mod Arrived
pub mod Played
