pub mod Asked
pub mod Placed
pub mod Stepped
pub mod Told
