-- The lemmas that proofs of other crates may cite.
pub mod Laws
pub mod Tasks
pub mod Words
pub mod FlatMaps
