pub mod Sooner
pub mod Helped
