-- What is told over several puts.
use Rattle.std.proofs.Common.{◌≡◌, ℕ, ◌+◌, ◌-◌, List, ◌++◌, length, take, drop, Option, None, Some, ◌∙◌, ap, arith, append_assoc, length-drop}
use Rattle.std.proofs.Math.Seq.{take-add}
use Rattle.std.proofs.lemmas.Grind.{common_steps}
use Rattle.std.specs.Io.KnownBytes.{append_known}

append_known-append : (start now later : Option (List ℕ)) (front piece : List ℕ)
    → now ≡ append_known start front → later ≡ append_known now piece
    → later ≡ append_known start (front ++ piece)
append_known-append None now later front piece p q = q ∙ ap (λ o. append_known o piece) p
append_known-append (Some bytes) now later front piece p q =
    q ∙ ap (λ o. append_known o piece) p ∙ ap Some (append_assoc bytes front piece)

one_more : (done count : ℕ) (piece : List ℕ)
    → take done piece ++ take count (take (length piece - done) (drop done piece)) ≡ take (done + count) piece
one_more done count piece = grind (arith, common_steps, take-add, length-drop)

-- after the front of a piece, the front of its rest
pub append_known-take : (start now later : Option (List ℕ)) (done count : ℕ) (piece : List ℕ)
    → now ≡ append_known start (take done piece)
    → later ≡ append_known now (take count (take (length piece - done) (drop done piece)))
    → later ≡ append_known start (take (done + count) piece)
append_known-take start now later done count piece p q =
    append_known-append start now later _ _ p q ∙ ap (append_known start) (one_more done count piece)
