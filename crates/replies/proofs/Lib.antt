-- The laws of the definitions in specs/, a file for each subject.
pub mod Table
pub mod Taking
pub mod Text
pub mod Carried
pub mod Writing
pub mod Answers
pub mod Kept
pub mod Written
pub mod Rewritten
pub mod Validity
pub mod ReadBack
pub mod OneToOne
pub mod Accepted
