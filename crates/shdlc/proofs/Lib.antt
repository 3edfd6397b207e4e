-- The laws of the definitions in specs/, a file for each subject.
pub mod Stuffing
pub mod RunLaws
pub mod Restuffed
pub mod Fault
pub mod Body
pub mod Frame
pub mod Stream
pub mod Noise
pub mod ReadBack
pub mod OneToOne
