pub mod Owned
pub mod Handles
pub mod Numbers
pub mod Calls
