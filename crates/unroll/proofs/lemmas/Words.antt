-- The bits of words.
pub use Rattle.unroll.proofs.WordBits.{is_set_above, is_set_and, is_set_not, is_set_or, is_set_shl_high, is_set_shl_low, is_set_shr, is_set_xor, is_set_zero}
pub use Rattle.unroll.proofs.Masks.{all-set, alone-only, alone-set}
pub use Rattle.unroll.proofs.PinWords.{none_bits, union_bits}
