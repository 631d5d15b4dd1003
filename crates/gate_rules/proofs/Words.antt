-- The bits of words, for the tactics of functions.
pub use Rattle.unroll.proofs.lemmas.Words.{is_set_and, is_set_not, is_set_or, is_set_xor, is_set_zero}
