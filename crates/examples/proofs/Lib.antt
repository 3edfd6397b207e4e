-- The theorem of the twelve examples.
pub mod Examples
