-- The C interface of burst slots: slots as lists, and what each exported function does.
pub mod Bursts
pub mod Claims
