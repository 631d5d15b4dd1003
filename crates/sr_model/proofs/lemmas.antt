-- The lemmas that proofs of other crates may cite.
pub mod Members
pub mod Instances
pub mod Laws
pub mod Decisions
pub mod AndRules
pub mod ParityRules
pub mod FromNothing
pub mod Cells
