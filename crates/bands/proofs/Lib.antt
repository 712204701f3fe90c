pub mod Rule
pub mod Bins
pub mod Settings
pub mod Power
pub mod Octaves
pub mod Floats
