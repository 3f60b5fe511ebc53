pub mod Rows
pub mod Acks
pub mod AckBody
pub mod Publishes
pub mod Known
pub mod Sound
pub mod FromValues
pub mod Norms
