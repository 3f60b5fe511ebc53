pub mod CallLemmas
pub mod ClientPtrValues
pub mod Free
pub mod Refusals
