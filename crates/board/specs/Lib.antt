-- 02 (i), the handover board: a table of 32 places, the orders on it, its list, and what every series of orders leaves on it.
pub mod Entries
pub mod Orders
pub mod Listing
pub mod Numbers
pub mod Series
pub mod Private
