-- What the words of a `select` ask for.
use Rattle.std.proofs.Common.{◌≡◌, ◌<◌, ◌≤◌, ℕ, List, [], length, get_or, map, refl, sym, subst, ◌∙◌, lit<}
use Rattle.std.specs.Prelude.{Any}
use Rattle.std.proofs.lemmas.List.{length-map}
use Rattle.std.proofs.lemmas.Option.{same_Some, slice_get-get_or}
use Rattle.sr_model.specs.Limits.{max_cycles}
use Rattle.restore_program.specs.Words.{IsFor, IsGiven, IsShaped, Selects, cycles_rule, later, seed_rule, select_rule, width_rule}
use Rattle.restore_program.proofs.AskedSimulation.{text_here}

-- its keys are given
pub record AreGiven (rest : List (List ℕ)) : Type 0 where
  pub width : Any (IsFor width_rule) rest
  pub cycles : Any (IsFor cycles_rule) rest
  pub seed : Any (IsFor seed_rule) rest

pub select_given : (words rest : List (List ℕ)) → IsShaped select_rule words → rest ≡ later select_rule words → AreGiven rest
select_given words rest shaped is = subst AreGiven (sym is) record {
  width = (shaped.given 0 width_rule (lit< tt)).given refl;
  cycles = (shaped.given 1 cycles_rule (lit< tt)).given refl;
  seed = (shaped.given 2 seed_rule (lit< tt)).given refl;
}

-- what was read
pub selects : (words : List (List ℕ)) (width cycles seed : ℕ) → IsShaped select_rule words → IsGiven select_rule words width_rule width → IsGiven select_rule words cycles_rule cycles → IsGiven select_rule words seed_rule seed
    → (netlist : List ℕ) × Selects words netlist width cycles seed
selects words width cycles seed shaped has_width has_cycles has_seed =
    let there : 1 < length words = shaped.files in
    (get_or words 1 [], record { shaped = shaped; is_netlist = slice_get-get_or words 1 [] there; has_width = has_width; has_cycles = has_cycles; has_seed = has_seed })

-- where each word is seen by its text
module _ {A : Type 0} (text : A → List ℕ) (xs : List A) (netlist : List ℕ) (width cycles seed : ℕ) (is : Selects (map text xs) netlist width cycles seed) where
  pub select_file : 1 < length xs
  select_file = subst (λ n. 1 < n) (length-map xs text) is.shaped.files

  pub select_cycles : (1 ≤ cycles) × (cycles ≤ max_cycles)
  select_cycles = let number = is.has_cycles.3 in (number.1, number.2)

  pub selects_seen : (x : A) (seen : List ℕ) → x ≡ get_or xs 1 x → seen ≡ text x → Selects (map text xs) seen width cycles seed
  selects_seen x seen at e = subst (λ n. Selects (map text xs) n width cycles seed) (same_Some netlist seen (sym is.is_netlist ∙ text_here text xs 1 x seen select_file at e)) is
