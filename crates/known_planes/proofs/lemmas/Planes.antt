-- The words of planes, and the bits of words.
pub use Rattle.known_planes.proofs.Members.{in-block, within-none, words-elsewhere}
pub use Rattle.known_planes.proofs.Clashes.{both-here, lowest-bit}
pub use Rattle.known_planes.proofs.BitCounts.{same-words}
