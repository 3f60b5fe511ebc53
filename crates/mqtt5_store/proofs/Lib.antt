pub mod FramesAgain
pub mod HeadAgain
pub mod Whole
