pub mod Adding
pub mod Apart
pub mod Found
pub mod Greatest
pub mod Kept
pub mod Marks
pub mod Ranks
pub mod Runs
