pub mod Wire
pub mod Buffers
pub mod ByteWorld
pub mod Reduction
pub mod Counts
pub mod Arrival
pub mod Does
