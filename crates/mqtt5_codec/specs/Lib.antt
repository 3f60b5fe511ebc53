pub mod Packets
pub mod PacketsIn
pub mod Codecs
pub mod Taken
pub mod Sound
pub mod Norms
pub mod Laws
