pub mod Folds
pub mod Lately
