-- What the proofs of the crates above cite. Assumes nothing.
pub mod Answers
