pub mod Refusals
pub mod Making
pub mod Gathering
