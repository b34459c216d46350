pub mod LaneLemmas
pub mod HexLanes
pub mod KnownLemmas
