pub mod Rows
pub mod Connects
pub mod FromValues
pub mod Reading
pub mod Short
pub mod Sound
pub mod Norms
