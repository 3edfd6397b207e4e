-- The program's lines of text, and the listing of a stream. `Private` serves contracts of private functions only.
pub mod Text
pub mod Program
pub mod Listing
pub mod Series
pub mod Private
