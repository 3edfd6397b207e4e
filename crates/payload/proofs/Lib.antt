-- The laws of the definitions in specs/.
pub mod Big
pub mod At
