-- What the C interface gives, out of the definitions of the crates under it.
pub mod Answers
pub mod Codes
pub mod Requests
pub mod Receivers
pub mod Answering
pub mod Private
pub mod Series
