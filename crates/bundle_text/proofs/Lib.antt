pub mod Lacking
pub mod Trimming
pub mod Parting
pub mod Pairs
pub mod Verdicts
