-- How the C interface answers with numbers.
pub mod Numbers
