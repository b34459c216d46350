pub mod Drafts
pub mod SoFar
pub mod Messages
pub mod Quiet
pub mod Parts
pub mod FailingPlaces
pub mod Few
pub mod Takings
pub mod LateUses
pub mod Sends
mod Refused
