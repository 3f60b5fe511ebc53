pub mod Starts
pub mod Fits
pub mod PacketsBack
pub mod RowsBack
pub mod Flags
pub mod PacketsAgain
