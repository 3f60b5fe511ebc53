pub mod Behind
pub mod Joined
pub mod Taken
pub mod Requested
pub mod Written
pub mod TakingUp
pub mod Said
