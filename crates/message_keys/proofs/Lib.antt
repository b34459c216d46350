pub mod Equality
pub mod KeyLemmas
pub mod AmountLemmas
