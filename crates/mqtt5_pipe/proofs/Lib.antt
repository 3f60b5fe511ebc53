pub mod Joined
pub mod Written
