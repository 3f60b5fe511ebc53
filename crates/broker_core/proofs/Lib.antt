pub mod Sendings
pub mod Routable
pub mod Received
