-- Frames on the wire and what a stream of them means, in the order of document 01.
pub mod Checksum
pub mod Stuffing
pub mod Runs
pub mod Fault
pub mod Body
pub mod Frame
pub mod Stream
pub mod Numbers
pub mod ReadBack
pub mod Noise
