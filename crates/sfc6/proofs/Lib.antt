-- The laws of the definitions in specs/, a file for each subject.
pub mod Floats
pub mod Table
pub mod Checks
pub mod Laid
pub mod Order
pub mod Writing
pub mod Rounds
pub mod Reading
pub mod Refusing
pub mod Written
pub mod Rewritten
pub mod RoundRead
pub mod ReadBack
pub mod OneToOne
pub mod Plain
pub mod ByNumber
pub mod Numbered
