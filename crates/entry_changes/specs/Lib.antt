pub mod SoFar
pub mod Late
