mod Again
mod Behind
mod Cuts
mod Fresh
mod Lines
pub mod LineFields
pub mod Ranked
pub mod Together
