pub mod PrintLemmas
pub mod FrontLemmas
pub mod WrittenLemmas
pub mod LabelLemmas
pub mod RowLemmas
pub mod DigitLemmas
pub mod LabelTable
pub mod RoomLemmas
