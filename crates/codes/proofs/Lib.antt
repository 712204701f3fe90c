pub mod LeastExponent
pub mod Laws
pub mod Neighbours
pub mod Taken
pub mod Ninth
pub mod BandCode
pub mod LegalWords
