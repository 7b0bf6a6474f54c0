-- What the proofs of closed subsets share. Assumes nothing.
pub mod Marks
