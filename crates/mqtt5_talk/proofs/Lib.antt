pub mod Talking
pub mod Showing
pub mod Sending
