pub mod Sources
pub mod Screens
