pub mod Fields
pub mod ReadBack
pub mod Records
pub mod RowLemmas
pub mod TensorBack
