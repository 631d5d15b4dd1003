-- The signals of a list of names: each is one of the netlist, and none stands twice.
use Rattle.std.proofs.Common.{ℕ, ◌≡◌, ◌≢◌, ◌<◌, ◌≤◌, true, List, [], length, map, arith, get_or, sym, ap, subst, ◌∙◌}
use Rattle.std.specs.Prelude.{All}
use Rattle.std.specs.List.{AllPairs, list_any, slice_get}
use Rattle.std.proofs.Math.Dec.{eqb}
use Rattle.std.proofs.lemmas.Bool.{eqb-true}
use Rattle.std.proofs.lemmas.Bool.Decides.{Decides-eqb}
use Rattle.std.proofs.lemmas.Map.Made.{IsDistinct-from_AllPairs}
use Rattle.std.proofs.lemmas.Map.Steps.{length-le_from_distinct_below}
use Rattle.std.proofs.lemmas.Map.Views.{Contains-from_any}
use Rattle.std.proofs.lemmas.List.{get_or-map, length-map}
use Rattle.std.proofs.lemmas.Option.{same_Some, slice_get_within}
use Rattle.sr_model.specs.Limits.{max_signals}
use Rattle.sr_model.specs.declared.cells.Sig.{Sig}
use Rattle.sr_model.specs.Netlist.{Valuation}
use Rattle.sr_model.specs.Dump.{Row}
use Rattle.netlist.specs.Circuit.{Circuit, IsCircuit}
use Rattle.cycle_sim.specs.Simulation.{traced_row, traced_rows}
use Rattle.restore_program.specs.Tracing.{AreNamed}
use Rattle.restore_program.proofs.TraceNames.{name-at, size}

pub signals_within : (c : Circuit) → IsCircuit c → (names : List (List ℕ)) (sigs : List Sig) → AreNamed c names sigs → All (λ (s : Sig). s.0 < length c.drivers) sigs
signals_within c circuit names sigs named k d h =
    subst (λ n. (get_or sigs k d).0 < n) circuit.one_name_each (slice_get_within c.names (get_or sigs k d).0 (get_or names k []) (name-at c names sigs named k d [] h))

pub signals_once : (c : Circuit) (names : List (List ℕ)) (sigs : List Sig) → AreNamed c names sigs → AllPairs (λ (a b : Sig). ¬ (a ≡ b)) sigs
signals_once c names sigs named i j d less h same =
    let at : j < length names = subst (λ n. j < n) (size c names sigs named) h in
    let before : i < length sigs = omega (arith, less, h) in
    named.once i j [] less at (same_Some _ _ (sym (name-at c names sigs named i d [] before) ∙ ap (λ (s : Sig). slice_get c.names s.0) same ∙ name-at c names sigs named j d [] h))

pub rows_within : (v : Valuation) (cycles count : ℕ) (sigs : List Sig) → All (λ (s : Sig). s.0 < count) sigs → All (λ (row : Row). row.sig.0 < count) (traced_rows v cycles sigs)
rows_within v cycles count sigs within k d h =
    let at : k < length sigs = subst (λ n. k < n) (length-map sigs (traced_row v cycles)) h in
    subst (λ (row : Row). row.sig.0 < count) (sym (get_or-map (traced_row v cycles) sigs k d.sig d at)) (within k d.sig at)

-- they are no more than the netlist has
pub signals_few : (c : Circuit) → IsCircuit c → (names : List (List ℕ)) (sigs : List Sig) → AreNamed c names sigs → length sigs ≤ max_signals
signals_few c circuit names sigs named = omega (arith, circuit.few_signals, few, length-map sigs number)
  where
    number : Sig → ℕ
    number s = s.0

    numbers : List ℕ
    numbers = map number sigs

    one : (k : ℕ) (d : Sig) → k < length numbers → get_or numbers k d.0 ≡ (get_or sigs k d).0
    one k d h = get_or-map number sigs k d d.0 (subst (λ n. k < n) (length-map sigs number) h)

    pairs : AllPairs (λ a b. a ≢ b) numbers
    pairs i j d less h same =
        let sig : Sig = record { 0 = d } in
        signals_once c names sigs named i j sig less (subst (λ n. j < n) (length-map sigs number) h)
        (ap (λ n. record { 0 = n }) (sym (one i sig (omega (arith, less, h))) ∙ same ∙ one j sig h))

    below : (q : ℕ) → list_any (eqb q) numbers ≡ true → q < length c.drivers
    below q found =
        let is = Contains-from_any eqb-true q numbers found in
        let sig : Sig = record { 0 = q } in
        let within : is.0 < length sigs = subst (λ n. is.0 < n) (length-map sigs number) is.1 in
        subst (λ n. n < length c.drivers) (sym (one is.0 sig is.1) ∙ is.2) (signals_within c circuit names sigs named is.0 sig within)

    few : length numbers ≤ length c.drivers
    few = length-le_from_distinct_below numbers (length c.drivers) (IsDistinct-from_AllPairs {eq = eqb} Decides-eqb numbers pairs) below
