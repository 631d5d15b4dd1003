-- The lists of changes, read and written.
use Rattle.std.proofs.Common.{ℕ, ◌≡◌, ◌<◌, List, [], ◌++◌, length, get_or, set, take, drop, arith, ap, ◌∙◌}
use Rattle.std.proofs.lemmas.List.{append-nil, drop_all, get_or-set_same, get_or-set_other, get_or_default, take_all}
use Rattle.sr_model.specs.Room.{WithRoom}
use Rattle.plain_close.specs.declared.changes.Change.{Change}
use Rattle.plain_close.specs.Changes.{changes_in}

-- a list that was lent and comes back with its length
pub items-kept : {X : Type 0} (n : ℕ) (xs rest : List X) → n ≡ length rest → length xs ≡ length rest → take n (xs ++ drop (length xs) rest) ≡ xs
items-kept n xs rest all same =
    ap (take n) (ap (λ ys. xs ++ ys) (drop_all (length xs) rest (omega (arith, same))) ∙ append-nil xs) ∙ take_all n xs (omega (arith, all, same))

module _ (lists : List (WithRoom Change)) (chunk : ℕ) (within : chunk < length lists) where
  -- the list of a chunk
  pub list-of : (d : WithRoom Change) → (get_or lists chunk d).items ≡ changes_in lists chunk
  list-of d = ap (λ (x : WithRoom Change). x.items) (get_or_default lists chunk d (record { items = []; room = 0 }) within)

  -- which another one replaces
  pub list-replaced : (x : WithRoom Change) → changes_in (set lists chunk x) chunk ≡ x.items
  list-replaced x = ap (λ (y : WithRoom Change). y.items) (get_or-set_same lists chunk x (record { items = []; room = 0 }) within)

-- and the others stay
pub lists-others : (lists : List (WithRoom Change)) (chunk at : ℕ) (x : WithRoom Change) → (at ≡ chunk → ⊥) → changes_in (set lists chunk x) at ≡ changes_in lists at
lists-others lists chunk at x other = ap (λ (y : WithRoom Change). y.items) (get_or-set_other lists chunk at x (record { items = []; room = 0 }) other)
