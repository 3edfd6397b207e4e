-- Laws of the text and of the listing.
pub mod Decimal
pub mod Example
pub mod Lines
pub mod Loop
pub mod Filling
pub mod EveryListing
