pub mod Pipe
pub mod Ends
