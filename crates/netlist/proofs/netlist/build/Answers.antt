use Rattle.std.proofs.Common.{Result, Vec, Global, ◌≡◌, ◌<◌, length, slice_get, Some, List, sym, ap, subst, ◌∙◌, ℕ, arith}
use Rattle.std.specs.Result.{MatchResult}
use Rattle.std.proofs.lemmas.List.{length-map}
use Rattle.sr_model.specs.Declaration.{Declaration, declared, declarations_of}
use Rattle.sr_model.specs.Netlist.{Driver}
use Rattle.sr_model.specs.declared.cells.Sig.{Sig}
use Rattle.netlist.specs.Checks.{IsAccepted, without_lines}
use Rattle.netlist.specs.Circuit.{IsNetlist}
use Rattle.netlist.specs.Loops.{HasNoLoop, IsLoop}
use Rattle.netlist.specs.Numbering.{names_of, drivers_of, driver_for}
use Rattle.netlist.specs.Ranks.{IsOrder}
use Rattle.netlist.proofs.Circuits.{circuit_made}
use Rattle.netlist.proofs.Statements.{without_lines-stated}
use Rattle.netlist.proofs.Walks.{loop_within}
use Rattle.netlist.specs.declared.loops.Loop.{Loop}
use Rattle.netlist.proofs.netlist.build.Goals as goal

-- an order of the gates, or the loop that the walk comes to
abbrev IsFound : List Driver → Result (Vec Sig Global) Loop → Type 0
IsFound drivers found = MatchResult found (λ order. HasNoLoop drivers × IsOrder drivers order.items) (λ l. IsLoop drivers l.name l.length)

pub returns-in-Ok-clause-netlist : goal.returns-in-Ok-clause-netlist
returns-in-Ok-clause-netlist c =
    let found : HasNoLoop c.in_ok-wiring.wiring × IsOrder c.in_ok-wiring.wiring c.in-Ok.gate_sigs.items =
    subst (IsFound c.in_ok-wiring.wiring) c.in-Ok.is c.in_ok-gate_sigs.ensures in
    (c.in_ok-numbering.ensures.accepted, subst HasNoLoop (c.in_ok-wiring.ensures ∙ c.in_ok-numbering.ensures.drivers) found.0)

pub invariant_of-result : goal.invariant_of-result
invariant_of-result c =
    let found : HasNoLoop c.in_ok-wiring.wiring × IsOrder c.in_ok-wiring.wiring c.in-Ok.gate_sigs.items =
    subst (IsFound c.in_ok-wiring.wiring) c.in-Ok.is c.in_ok-gate_sigs.ensures in
    let netlist : IsNetlist (declared c.args.s) =
    (c.in_ok-numbering.ensures.accepted, subst HasNoLoop (c.in_ok-wiring.ensures ∙ c.in_ok-numbering.ensures.drivers) found.0) in (
      circuit_made (declared c.args.s) c.in_ok-numbering.numbering.names c.in_ok-wiring.wiring c.in_ok-numbering.numbering.inputs.items c.in_ok-numbering.numbering.outputs.items c.requires
          netlist c.in_ok-numbering.ensures.names (c.in_ok-wiring.ensures ∙ c.in_ok-numbering.ensures.drivers) c.in_ok-numbering.ensures.inputs c.in_ok-numbering.ensures.outputs,
      found.1,
    )

pub get-requires : goal.get-requires
get-requires c =
    let found : IsLoop c.in_ok-wiring.wiring c.in-Err.field-0.name c.in-Err.field-0.length =
    subst (IsFound c.in_ok-wiring.wiring) c.in-Err.is c.in_ok-gate_sigs.ensures in
    let within : c.in-Err.field-0.name.0 < length c.in_ok-wiring.wiring = loop_within c.in_ok-wiring.wiring c.in-Err.field-0.name c.in-Err.field-0.length found in
    let drivers : c.in_ok-wiring.wiring ≡ drivers_of (declared c.args.s) = c.in_ok-wiring.ensures ∙ c.in_ok-numbering.ensures.drivers in
    omega (arith, within, ap length drivers, length-map (names_of (declared c.args.s)) (driver_for (declared c.args.s)), ap length c.in_ok-numbering.ensures.names)

pub returns-in_ok-name-in-Err-clause-refusal : goal.returns-in_ok-name-in-Err-clause-refusal
returns-in_ok-name-in-Err-clause-refusal c =
    let found : IsLoop c.in_ok-wiring.wiring c.in-Err.field-0.name c.in-Err.field-0.length =
    subst (IsFound c.in_ok-wiring.wiring) c.in-Err.is c.in_ok-gate_sigs.ensures in
    let drivers : c.in_ok-wiring.wiring ≡ drivers_of (declared c.args.s) = c.in_ok-wiring.ensures ∙ c.in_ok-numbering.ensures.drivers in
    let named : slice_get (names_of (declared c.args.s)) c.in-Err.field-0.name.0 ≡ Some c.in_ok-name-in-Err.name.items =
    subst (λ ns. slice_get ns c.in-Err.field-0.name.0 ≡ Some c.in_ok-name-in-Err.name.items) c.in_ok-numbering.ensures.names (c.get.ensures ∙ ap (λ (n : List ℕ). Some n) (sym c.in_ok-name-in-Err.ensures)) in
    let same : without_lines (declarations_of c.args.s) ≡ declared c.args.s = without_lines-stated c.args.s.items in
    subst (λ (ds : List Declaration). IsAccepted ds × ((sig : Sig) × (slice_get (names_of ds) sig.0 ≡ Some c.in_ok-name-in-Err.name.items) × IsLoop (drivers_of ds) sig c.in-Err.field-0.length)) (sym same) (
      c.in_ok-numbering.ensures.accepted,
      (c.in-Err.field-0.name, named, subst (λ ds. IsLoop ds c.in-Err.field-0.name c.in-Err.field-0.length) drivers found),
    )
