-- Words of 64 bits, a bit for each cycle of a chunk.
use Rattle.std.specs.Prelude.{ℕ, ◌+◌, ◌*◌, ◌==◌, Bool, true, false, bit_or, nat_lt}
use Rattle.std.specs.Int.{bit_at}
use Rattle.unroll.specs.declared.words.PinWord.{PinWord}

-- whether bit i of the word is set
unfoldable pub is_set : ℕ → ℕ → Bool
is_set word i = bit_at word i == 1

-- the word of a bit
abbrev pub word_for : Bool → PinWord → ℕ
word_for true words = words.one
word_for false words = words.zero

-- no literal
abbrev pub no_words : PinWord
no_words = record { zero = 0; one = 0 }

-- the literals of both
abbrev pub union_of : PinWord → PinWord → PinWord
union_of a b = record { zero = bit_or a.zero b.zero; one = bit_or a.one b.one }

-- whether there is a cycle for bit i of a chunk
abbrev pub is_cycle : ℕ → ℕ → ℕ → Bool
is_cycle cycles chunk i = nat_lt (64 * chunk + i) cycles
