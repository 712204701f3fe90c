-- Summed spectra: the power of a component, the totals of two masks, one call, and the plain book of whole lists of calls.
pub mod Component
pub mod Totals
pub mod Call
pub mod Book
pub mod History
pub mod Claims
-- For the contracts of private functions only.
pub mod Private
