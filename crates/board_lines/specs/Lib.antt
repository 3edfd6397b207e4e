pub mod Text
pub mod Lease
