-- The shift log, in the words of document 02, request (v).
pub mod Log
pub mod Check
pub mod Listing
pub mod Writer
pub mod Text
pub mod Kinds
pub mod Logs
pub mod Private
pub mod Oldest
