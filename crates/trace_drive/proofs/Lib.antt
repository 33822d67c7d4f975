pub mod Counting
pub mod Following
pub mod Turning
pub mod Taking
pub mod Ending
pub mod Replaying
pub mod ReplayTurns
pub mod EachPacket
mod ReadWords
pub mod WholePackets
mod FewPackets
pub mod KeptFacts
mod KeptReads
pub mod Pieces
pub mod Breaking
