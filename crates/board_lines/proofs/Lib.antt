-- Laws of the text and of the lease.
pub mod Sizes
pub mod Writing
pub mod Rows
pub mod Value
pub mod Examples
