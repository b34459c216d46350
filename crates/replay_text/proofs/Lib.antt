pub mod Parts
pub mod SentTexts
pub mod StepPieces
