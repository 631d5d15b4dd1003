-- The lemmas that proofs of other crates may cite.
pub mod Signals
pub mod Names
pub mod Laws
