pub mod AckLemmas
pub mod PacketsBack
pub mod RowsBack
pub mod AcksAgain
pub mod PublishesAgain
pub mod PingsAgain
