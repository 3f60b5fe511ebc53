pub mod TalkErrors
pub mod Conversation
pub mod Capabilities
pub mod Answers
pub mod Published
pub mod Sources
pub mod Shown
pub mod Connects
