-- The law by which a replay by value is laid in the lent room.
pub mod Laid
