pub mod SpanLemmas
pub mod PlaceLemmas
pub mod BuildLemmas
