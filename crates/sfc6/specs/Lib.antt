-- The typed commands of the SFC6 family: the table, and requests written and read, in the words of document 01.
pub mod Commands
pub mod Requests
pub mod Rounds
pub mod Reading
pub mod ReadBack
