-- Replies of the SFC6 family, written and read, in the words of document 01.
pub mod Replies
pub mod Writer
pub mod Reader
pub mod Paper
pub mod ReadBack
