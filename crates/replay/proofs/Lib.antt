-- The laws of the definitions in specs/, and the claims.
pub mod Yields
pub mod Noting
pub mod GoingOn
pub mod RunningOn
pub mod Halving
pub mod Carrying
pub mod Whole
pub mod Borders
pub mod Serial
pub mod Only19
pub mod Claims
pub mod Examples
