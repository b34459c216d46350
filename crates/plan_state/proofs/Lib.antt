pub mod Traces
pub mod Stands
