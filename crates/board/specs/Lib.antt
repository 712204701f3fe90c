-- For the contracts of private functions only: the public contracts cite crate `model` and crate `registers`.
pub mod Private
