-- No gate is its own pin.
use Rattle.std.proofs.Common.{◌≡◌, List, [], ◌∷◌, true, inl, inr, subst}
use Rattle.std.specs.List.{Contains}
use Rattle.sr_model.specs.declared.cells.Sig.{Sig}
use Rattle.sr_model.specs.Netlist.{Driver}
use Rattle.sr_model.proofs.lemmas.Members.{not_in_nil, Contains-here, Contains-cases}
use Rattle.netlist.specs.Wiring.{driver_at, pins_of, is_gate}
use Rattle.netlist.specs.Loops.{HasNoLoop}

-- a gate that is its own pin is on a loop
pub own_pin : (drivers : List Driver) (s : Sig) → HasNoLoop drivers → is_gate (driver_at drivers s.0) ≡ true → Contains (pins_of (driver_at drivers s.0)) s → ⊥
own_pin drivers s no_loop gate own =
    let alone : List Sig = s ∷ [] in
    let member : Contains alone s = Contains-here s [] in
    no_loop s (record {
      signals = alone;
      each = λ t h. elim (Contains-cases s [] t h) [
        | inl e ↦ subst (λ (x : Sig). (is_gate (driver_at drivers x.0) ≡ true) × ((pin : Sig) × Contains (pins_of (driver_at drivers x.0)) pin × Contains alone pin)) e (gate, (s, own, member))
        | inr none ↦ absurd (not_in_nil t none)
      ];
      member = member;
    })
