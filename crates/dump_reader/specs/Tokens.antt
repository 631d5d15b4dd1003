-- The two tokens of a text.
use Rattle.std.specs.Prelude.{ℕ, ◌≡◌, ◌≢◌, IsTrue, false, List, [], ◌++◌, Option, option_map}
use denote.Bor.{Bor}
use Rattle.std.specs.List.{All}
use Rattle.sr_text.specs.Text.{is_blank}

-- some bytes, and none of them blank
abbrev pub IsToken : List ℕ → Type 0
IsToken text = (text ≢ []) × All (λ b. is_blank b ≡ false) text

-- some blanks
abbrev pub IsGap : List ℕ → Type 0
IsGap text = (text ≢ []) × All (λ b. IsTrue (is_blank b)) text

-- the text is these two tokens with a gap between them
pub record HasTwoTokens (text first second : List ℕ) : Type 0 where
  pub gap : List ℕ
  pub whole : text ≡ first ++ gap ++ second
  pub is_first : IsToken first
  pub is_gap : IsGap gap
  pub is_second : IsToken second

-- two parts of a text, by their bytes
abbrev pub texts_of : Option (Bor (List ℕ) × Bor (List ℕ)) → Option (List ℕ × List ℕ)
texts_of parts = option_map (λ x. (x.0.now, x.1.now)) parts
