-- The definitions that the contracts cite.
pub mod Answer
pub mod Crc
pub mod Engines
pub mod Word
pub mod Command
pub mod Register
