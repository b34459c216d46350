pub use Rattle.step_draft.specs.Outputs
pub mod Inputs
pub mod Node
