pub mod Codes
pub mod Parts
pub mod Rounds
pub mod PacketsBack
pub mod RowsBack
pub mod ListsAgain
pub mod PacketsAgain
