pub mod Plays
pub mod Reports
