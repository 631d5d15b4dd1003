-- A token is not empty.
use Rattle.std.proofs.Common.{◌≡◌, ◌+◌, ◌-◌, ◌<◌, ℕ, Bool, false, List, length, take, drop, get_or, not, arith, ap, ◌∙◌, sym}
use Rattle.std.specs.List.{prefix_len, position_or_len}
use Rattle.std.proofs.lemmas.List.Sums.{prefix_len_stops, prefix_len-drop_yes}
use Rattle.std.proofs.lemmas.List.{length-drop, get_or-drop, take_rest}

pub token_some : (p : ℕ → Bool) (line : List ℕ) (from blanks len : ℕ) → blanks ≡ prefix_len p (take (length line - from) (drop from line)) → from + blanks < length line
    → len ≡ position_or_len p (take (length line - (from + blanks)) (drop (from + blanks) line)) → 0 < len
token_some p line from blanks len skipped h rest =
    let front : blanks ≡ prefix_len p (drop from line) = skipped ∙ ap (prefix_len p) (take_rest line from) in
    let inside : prefix_len p (drop from line) < length (drop from line) = omega (arith, length-drop from line) in
    let place : get_or line (from + blanks) 0 ≡ get_or (drop from line) (prefix_len p (drop from line)) 0 = sym (get_or-drop from line blanks 0) ∙ ap (λ n. get_or (drop from line) n 0) front in
    let stops : p (get_or line (from + blanks) 0) ≡ false = ap p place ∙ prefix_len_stops p (drop from line) 0 inside in
    omega (arith, rest ∙ ap (position_or_len p) (take_rest line (from + blanks)), prefix_len-drop_yes (λ b. not (p b)) line (from + blanks) 0 h (ap not stops))
