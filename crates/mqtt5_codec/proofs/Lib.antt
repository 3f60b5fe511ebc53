pub mod CodecLemmas
pub mod FrameLemmas
pub mod FrameLaws
pub mod ReadingLemmas
pub mod PacketsAgain
