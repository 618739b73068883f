pub mod SegmentLemmas
pub mod SearchLemmas
pub mod DenseLemmas
