-- The fields of a payload, in the words of document 01.
pub mod Field
