-- Contracts of private functions: nothing that a reader has to believe.
pub mod Private
