-- The twelve examples of document 01.
pub mod Table
