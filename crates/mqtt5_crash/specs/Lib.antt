pub mod Restart
pub mod Crashes
