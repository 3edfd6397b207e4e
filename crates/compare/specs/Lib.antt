-- Two logs compared, in the words of document 02, request (x).
pub mod Compare
pub mod Claims
pub mod Private
