pub mod Station
pub mod Pumping
pub mod Found
pub mod Verdicts
