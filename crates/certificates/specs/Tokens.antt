-- The tokens of a text.
use Rattle.std.specs.Prelude.{ℕ, List, [], ◌∷◌, ◌++◌, if◌then◌else◌}
use Rattle.sr_text.specs.Text.{is_blank}

-- these tokens, behind one that has begun, unless it has no byte yet
abbrev pub behind : List ℕ → List (List ℕ) → List (List ℕ)
behind [] later = later
behind (b ∷ begun) later = (b ∷ begun) ∷ later

-- the tokens of a text, where one has begun before it
abbrev pub tokens_from : List ℕ → List ℕ → List (List ℕ)
tokens_from begun [] = behind begun []
tokens_from begun (b ∷ text) = if is_blank b then behind begun (tokens_from [] text) else tokens_from (begun ++ b ∷ []) text

-- its longest runs of bytes that are not blank
abbrev pub tokens_of : List ℕ → List (List ℕ)
tokens_of text = tokens_from [] text
