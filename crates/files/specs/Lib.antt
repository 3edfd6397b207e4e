-- What the programs say of a file that they cannot open.
pub mod Failing
