pub mod Broker
pub mod World
pub mod Delivery
pub mod Happens
pub mod Twins
