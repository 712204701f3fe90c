pub mod Band
pub mod Power
pub mod Answer
pub mod Exact
pub mod Claims
pub mod Private
