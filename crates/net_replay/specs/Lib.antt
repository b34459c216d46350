pub mod Steps
pub mod Packets
pub mod Replays
pub mod Outcome
pub mod Traces
pub mod Merged
pub mod Running
