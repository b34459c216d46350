pub mod First
pub mod Adding
mod Own
mod LookedUp
mod Repeats
