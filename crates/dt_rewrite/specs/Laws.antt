-- The laws that commands owe: each keeps the sum, the lawfulness and the accesses.
pub mod Collapse
pub mod Communicate
pub mod Distribute
pub mod Divide
pub mod DivideCuts
pub mod Reorder
pub mod Rotate
pub mod Split
pub mod SplitCuts
pub mod TwoLoops
