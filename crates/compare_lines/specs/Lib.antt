-- What the program compare prints, in the words of document 02, request (x). `Private` serves contracts of private functions only.
pub mod Text
pub mod Claims
pub mod Private
