-- The laws of the definitions in specs/.
pub mod Tests
pub mod Search
pub mod Validity
pub mod Stands
pub mod Ranks
pub mod Sorting
pub mod Handover
pub mod Worked
pub mod Numbered
pub mod Walk
pub mod Runs
pub mod Kept
pub mod Turns
pub mod Carried
pub mod Seen
