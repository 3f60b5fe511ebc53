pub mod Properties
pub mod Reasons
