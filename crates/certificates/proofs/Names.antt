-- The signals and places of names.
use Rattle.std.proofs.Common.{◌≡◌, ◌↔◌, ℕ, ◌<◌, Bool, false, List, length, Some, sym, ap, subst, ◌∙◌}
use Rattle.std.specs.Prelude.{IsSome, IsTrue}
use Rattle.std.specs.List.{slice_get}
use Rattle.std.proofs.lemmas.Bool.{true≢false}
use Rattle.std.proofs.lemmas.Option.{slice_get_within}
use Rattle.sr_model.specs.declared.cells.Place.{Place}
use Rattle.sr_model.specs.declared.cells.Sig.{Sig}
use Rattle.sr_model.specs.Netlist.{instance_at}
use Rattle.netlist.specs.Circuit.{Circuit, IsCircuit}
use Rattle.unroll.specs.Problem.{Unrolling, unrolled}
use Rattle.certificates.specs.Grammar.{IsPlaceOf}

pub named-within : (c : Circuit) (sig : Sig) (name : List ℕ) → IsCircuit c → slice_get c.names sig.0 ≡ Some name → sig.0 < length c.drivers
named-within c sig name circuit is = subst (λ n. sig.0 < n) circuit.one_name_each (slice_get_within c.names sig.0 name is)

-- no two signals have one name
pub one-signal : (c : Circuit) (name : List ℕ) (a b : Sig) → IsCircuit c → slice_get c.names a.0 ≡ Some name → slice_get c.names b.0 ≡ Some name → a ≡ b
one-signal c name a b circuit h k = ap (λ n. record { 0 = n }) (circuit.distinct a.0 b.0 name h k)

module _ (u : Unrolling) (seen : Circuit) (seen_is : seen ≡ u.circuit) (is : IsCircuit u.circuit) (target : List ℕ) (sig : Sig) (found : slice_get seen.names sig.0 ≡ Some target) where
  named : slice_get u.circuit.names sig.0 ≡ Some target
  named = subst (λ (c : Circuit). slice_get c.names sig.0 ≡ Some target) seen_is found

  pub target-within : sig.0 < length u.circuit.drivers
  target-within = named-within u.circuit sig target is named

  -- where no instance stands at the place of the one signal of the name, none stands at a place of the name
  pub no-place : (at : ℕ) (answer : Bool) → (IsTrue answer ↔ IsSome (instance_at (unrolled u) (record { cycle = at; target = sig }))) → answer ≡ false
      → (place : Place) → IsPlaceOf u.circuit u.cycles target at place → ⊥
  no-place at answer exact fails place there =
      let same : place ≡ record { cycle = at; target = sig } =
      ap (λ n. record { cycle = n; target = place.target }) there.is_cycle ∙ ap (λ s. record { cycle = at; target = s }) (one-signal u.circuit target place.target sig is there.named named) in
      true≢false (sym (exact.1 (subst (λ (p : Place). IsSome (instance_at (unrolled u) p)) same there.stands)) ∙ fails)
