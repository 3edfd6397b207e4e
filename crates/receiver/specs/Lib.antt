-- The receiver's record, what its calls give, and what every series of calls gives.
pub mod Record
pub mod Calls
pub mod Series
