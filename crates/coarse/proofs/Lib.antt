pub mod Taken
pub mod Runs
pub mod Totals
pub mod Conversion
pub mod Segments
