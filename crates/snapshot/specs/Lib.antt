-- Snapshots of the LFR: one packet.
pub mod Packet
pub mod Calls
pub mod Claims
