-- The laws of the definitions in specs/.
pub mod Fitting
pub mod Whole
pub mod Prints
