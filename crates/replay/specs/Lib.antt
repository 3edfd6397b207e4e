-- 02 (vi), Replay: what a log means, what is claimed of it, and what only private contracts cite.
pub mod Replay
pub mod Claims
pub mod Private
