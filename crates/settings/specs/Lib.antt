pub mod Settings
pub mod Claims
