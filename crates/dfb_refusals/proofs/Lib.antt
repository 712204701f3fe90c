pub mod Numbers
pub mod Apart
pub mod Values
