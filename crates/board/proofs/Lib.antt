pub mod Soundness
pub mod Ticking
