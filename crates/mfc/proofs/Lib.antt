-- Laws that the proofs use.
pub mod Heads
pub mod Lent
pub mod Replying
pub mod Carried
pub mod EverySeries
