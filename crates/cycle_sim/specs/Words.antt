-- The words of the generator, by stream and seed.
use Rattle.std.specs.Prelude.{ℕ, zero, suc}
use Rattle.rand_pcg.specs.Lcg.{Lcg, next, started, increment_of}
use Rattle.rand_pcg.specs.Pcg.{multiplier_64, output_xsh_rr}

-- the generator of a seed in a stream before word n, counted from 0
unfoldable pub generator_at : ℕ → ℕ → ℕ → Lcg
generator_at stream seed zero = started 64 multiplier_64 seed (increment_of 64 stream)
generator_at stream seed (suc n) = next 64 multiplier_64 (generator_at stream seed n)

abbrev pub word_at : ℕ → ℕ → ℕ → ℕ
word_at stream seed n = output_xsh_rr (generator_at stream seed n).state
