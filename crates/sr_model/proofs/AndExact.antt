-- Exactly which literals are forced at an and-like gate, known or not.
use Rattle.std.proofs.Common.{◌≡◌, ◌⊎◌, ◌↔◌, Bool, true, false, not, inl, inr, sym, refl}
use Rattle.std.specs.List.{Contains}
use Rattle.std.proofs.lemmas.Bool.{cases_Bool}
use Rattle.sr_model.specs.declared.cells.Cell.{Cell}
use Rattle.sr_model.specs.declared.cells.Lit.{Lit}
use Rattle.sr_model.specs.AndLike.{IsAndLike}
use Rattle.sr_model.specs.Netlist.{cell_eq, Instance, Valuation, IsRow}
use Rattle.sr_model.specs.Closure.{Forces, passing, lit}
use Rattle.sr_model.proofs.lemmas.Members.{Contains-here, Contains-there}
use Rattle.sr_model.proofs.Rows.{put, put-at, put-other, row_with, known_forced}
use Rattle.sr_model.proofs.AndLike.{one_not_p, pin_apart, row_p, p_at_pin, target_t, target_other, pin_p, pin_other, pin_other-rest, target_t-from, target_other-from, pin_p-from, pin_other-from}

-- a literal is forced: it is known, or else something that follows where it is not
known_or : (known : Lit → Bool) (i : Instance) (l : Lit) (P : Type 0) → (Forces i (passing known) l → known l ≡ false → P) → Forces i (passing known) l → (known l ≡ true) ⊎ P
known_or known i l P new f = elim (cases_Bool (known l)) [ inl holds ↦ inl holds | inr fails ↦ inr (new f fails) ]

module _ (p t : Bool) (i : Instance) (and_like : IsAndLike p t i) (known : Lit → Bool) (apart : Contains i.pins i.target → ⊥) where
  -- the row with not p at each pin
  low : Valuation
  low = put (λ _. not p) i.target (not t)

  low_is_row : (c : Cell) → Contains i.pins c → IsRow i low
  unfolding low
  low_is_row c h = row_with i apart (λ _. not p) (not t) (sym (one_not_p p t i and_like (λ _. not p) c h refl))

  low_target : low i.target ≡ not t
  unfolding low
  low_target = put-at (λ _. not p) i.target (not t)

  low_pin : (c : Cell) → Contains i.pins c → low c ≡ not p
  unfolding low
  low_pin c h = put-other (λ _. not p) i.target (not t) c (pin_apart p t i and_like known apart c h)

  -- the target's t is forced where it or each pin's p is known
  pub target_t-exact : Forces i (passing known) (lit i.target t) ↔ ((known (lit i.target t) ≡ true) ⊎ ((c : Cell) → Contains i.pins c → known (lit c p) ≡ true))
  target_t-exact = (
    known_or known i (lit i.target t) ((c : Cell) → Contains i.pins c → known (lit c p) ≡ true) (target_t p t i and_like known apart),
    λ h. elim h [
      | inl holds ↦ known_forced known i (lit i.target t) (Contains-here i.target i.pins) holds (put (λ _. p) i.target t) (row_p p t i and_like known apart) (put-at (λ _. p) i.target t)
      | inr all ↦ target_t-from p t i and_like known apart all
    ],
  )

  -- the target's not t is forced where it or some pin's not p is known; there is a pin
  pub target_other-exact : (c0 : Cell) → Contains i.pins c0
      → Forces i (passing known) (lit i.target (not t)) ↔ ((known (lit i.target (not t)) ≡ true) ⊎ ((c : Cell) × Contains i.pins c × (known (lit c (not p)) ≡ true)))
  target_other-exact c0 has_pin = (
    known_or known i (lit i.target (not t)) ((c : Cell) × Contains i.pins c × (known (lit c (not p)) ≡ true)) (target_other p t i and_like known apart),
    λ h. elim h [
      | inl holds ↦ known_forced known i (lit i.target (not t)) (Contains-here i.target i.pins) holds low (low_is_row c0 has_pin) low_target
      | inr some ↦ target_other-from p t i and_like known apart some.0 some.1 some.2
    ],
  )

  -- a pin's p is forced where it or the target's t is known
  pub pin_p-exact : (c : Cell) → Contains i.pins c → Forces i (passing known) (lit c p) ↔ ((known (lit c p) ≡ true) ⊎ (known (lit i.target t) ≡ true))
  pin_p-exact c is_pin = (
    known_or known i (lit c p) (known (lit i.target t) ≡ true) (pin_p p t i and_like known apart c is_pin),
    λ h. elim h [
      | inl holds ↦ known_forced known i (lit c p) (Contains-there i.target i.pins c is_pin) holds (put (λ _. p) i.target t) (row_p p t i and_like known apart)
          (p_at_pin p t i and_like known apart c is_pin)
      | inr target ↦ pin_p-from p t i and_like known apart c is_pin target
    ],
  )

  -- a pin's not p is forced where it is known, or the target's not t and p at each other pin are
  pub pin_other-exact : (c : Cell) → Contains i.pins c
      → Forces i (passing known) (lit c (not p)) ↔ ((known (lit c (not p)) ≡ true) ⊎ ((known (lit i.target (not t)) ≡ true) × ((d : Cell) → Contains i.pins d → cell_eq c d ≡ false → known (lit d p) ≡ true)))
  pin_other-exact c is_pin = (
    known_or known i (lit c (not p)) ((known (lit i.target (not t)) ≡ true) × ((d : Cell) → Contains i.pins d → cell_eq c d ≡ false → known (lit d p) ≡ true))
        (λ f new. (pin_other p t i and_like known apart c is_pin f new, pin_other-rest p t i and_like known apart c is_pin f new)),
    λ h. elim h [
      | inl holds ↦ known_forced known i (lit c (not p)) (Contains-there i.target i.pins c is_pin) holds low (low_is_row c is_pin) (low_pin c is_pin)
      | inr both ↦ pin_other-from p t i and_like known apart c is_pin both.0 both.1
    ],
  )
