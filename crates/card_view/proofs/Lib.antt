pub mod Prefixes
pub mod Pieces
pub mod WayText
pub mod Listing
