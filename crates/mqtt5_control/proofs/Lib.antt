pub mod ThirdsLemmas
pub mod PacketsBack
pub mod RowsBack
pub mod PacketsAgain
