pub mod SignedLaws
pub mod Rounding
pub mod Scale
pub mod Exact
