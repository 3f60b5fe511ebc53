pub mod Progress
pub mod Late
pub mod Subscribers
pub mod Packets
