-- Space packets of waveform sets: the bytes of a packet, and export and import.
pub mod Packet
pub mod Calls
pub mod Claims
