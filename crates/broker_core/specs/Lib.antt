pub mod Clients
pub mod Sound
