pub mod Packets
pub mod PacketLaws
pub mod Laws
pub mod Turns
pub mod TurnSteps
