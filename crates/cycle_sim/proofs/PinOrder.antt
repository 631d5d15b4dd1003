-- Each gate stands behind those that drive its pins.
use Rattle.std.proofs.Common.{ℕ, ◌≡◌, ◌<◌, ◌≤◌, true, List, length, get_or, arith, inl, inr, sym, ap, subst, ◌∙◌}
use Rattle.std.specs.List.{Contains}
use Rattle.std.proofs.lemmas.Bool.{cases_lt, cases_eq}
use Rattle.std.proofs.lemmas.List.{get_or_default}
use Rattle.std.proofs.lemmas.List.Elements.{Contains-get_or}
use Rattle.sr_model.specs.declared.cells.Sig.{Sig}
use Rattle.sr_model.specs.Netlist.{Driver}
use Rattle.netlist.specs.Ranks.{IsRank, IsOrder, rank_by}
use Rattle.netlist.specs.Wiring.{driver_at, is_gate, pins_of}
use Rattle.netlist.proofs.lemmas.Signals.{pin_below, member_place}

-- the rank of a pin is less than that of its gate
pub rank-below : (drivers : List Driver) (ranks : List ℕ) → IsRank drivers ranks → (s pin : Sig) → is_gate (driver_at drivers s.0) ≡ true → Contains (pins_of (driver_at drivers s.0)) pin
    → get_or ranks pin.0 0 < get_or ranks s.0 0
rank-below drivers ranks is s pin gate h =
    let place = member_place (pins_of (driver_at drivers s.0)) pin h in
    subst (λ n. get_or ranks pin.0 0 < n) (sym (is.each s.0))
    (subst (λ (p : Sig). get_or ranks p.0 0 < rank_by ranks (driver_at drivers s.0)) place.2 (pin_below ranks (driver_at drivers s.0) place.0 gate place.1))

module _ (drivers : List Driver) (order : List Sig) (is : IsOrder drivers order) (i : ℕ) (d : Sig) (within : i < length order) (pin : Sig)
    (h : Contains (pins_of (driver_at drivers (get_or order i d).0)) pin) (gate : is_gate (driver_at drivers pin.0) ≡ true) where
  its-gate : is_gate (driver_at drivers (get_or order i d).0) ≡ true
  its-gate = (is.gates (get_or order i d)).0 (Contains-get_or order i d within)

  below : get_or is.ranks pin.0 0 < get_or is.ranks (get_or order i d).0 0
  below = rank-below drivers is.ranks is.is_rank (get_or order i d) pin its-gate h

  listed : Contains order pin
  listed = (is.gates pin).1 gate

  at : get_or order listed.0 d ≡ pin
  at = get_or_default order listed.0 d pin listed.1 ∙ listed.2

  not-later : i ≤ listed.0 → ⊥
  not-later later =
      elim (cases_eq i listed.0) [
        | inl same ↦ self (get_or is.ranks pin.0 0) (subst (λ (s : Sig). get_or is.ranks pin.0 0 < get_or is.ranks s.0 0) (ap (λ n. get_or order n d) same ∙ at) below)
        | inr other ↦ elim (is.ascending i listed.0 d (omega (arith, later, other)) listed.1) [
          | inl less ↦ apart (get_or is.ranks pin.0 0) (get_or is.ranks (get_or order i d).0 0) below (subst (λ (s : Sig). get_or is.ranks (get_or order i d).0 0 < get_or is.ranks s.0 0) at less)
          | inr (equal, _) ↦
              apart_equal (get_or is.ranks pin.0 0) (get_or is.ranks (get_or order i d).0 0) below (equal ∙ ap (λ (s : Sig). get_or is.ranks s.0 0) at)
        ]
      ]
    where
      self : (n : ℕ) → n < n → ⊥
      self n h = omega (arith, h)

      apart : (m n : ℕ) → m < n → n < m → ⊥
      apart m n h k = omega (arith, h, k)

      apart_equal : (m n : ℕ) → m < n → n ≡ m → ⊥
      apart_equal m n h e = omega (arith, h, e)

  pub earlier-gate : (k : ℕ) × (k < i) × (get_or order k d ≡ pin)
  earlier-gate =
      elim (cases_lt listed.0 i) [
        | inl earlier ↦ (listed.0, earlier, at)
        | inr later ↦ absurd (not-later later)
      ]
