use Rattle.std.proofs.Common.{ℕ, List, Option, None, ◌≡◌, ◌<◌, ◌≤◌, ◌-◌, length, get_or, replicate, subst, sym, ap, ◌∙◌, arith}
use Rattle.std.proofs.lemmas.List.{get_or_default}
use Rattle.sr_model.specs.Netlist.{Driver}
use Rattle.netlist.specs.Loops.{IsLoop}
use Rattle.netlist.proofs.Marks.{marked_within}
use Rattle.netlist.proofs.Walks.{Walking, Walking-begins, Walking-goes, Walking-ends}
use Rattle.netlist.proofs.loops.find_loop.Goals as goal

pub loop-step-init : goal.loop-step-init
loop-step-init c =
    let drivers : List Driver = c.args.wiring.now in
    subst (λ met. Walking drivers c.args.fed.now met c.least_marked-sig.result 0) (sym (c.in_ok-met.ensures ∙ ap (λ n. replicate n None) c.signals.ensures.count))
    (Walking-begins drivers c.args.fed.now c.least_marked-sig.result c.requires.fed c.least_marked-sig.ensures.marked c.least_marked-sig.ensures.least)

pub overflow_sub-result : goal.overflow_sub-result
overflow_sub-result c =
    let met : List (Option ℕ) = c.loop-step.met.items in
    let within : c.loop-step.sig.0 < length met = let marked : c.loop-step.sig.0 < length c.args.fed.now = marked_within c.args.fed.now c.loop-step.sig.0 c.loop-step.invariant.marked in
    let fed : length c.args.fed.now ≡ length c.args.wiring.now = c.requires.fed.size in let size : length met ≡ length c.args.wiring.now = c.loop-step.invariant.size in omega arith in
    let read : get_or met c.loop-step.sig.0 None ≡ c.index.result.now = get_or_default met c.loop-step.sig.0 None c.index.result.now within ∙ sym c.index.ensures in
    let ends : (c.in-Some.step ≤ c.loop-step.steps) × IsLoop c.args.wiring.now c.loop-step.sig (c.loop-step.steps - c.in-Some.step) =
    Walking-ends c.args.wiring.now c.args.fed.now met c.loop-step.sig c.loop-step.steps c.in-Some.step c.loop-step.invariant (read ∙ c.in-Some.is) in
    ends.0

pub returns-in-Some : goal.returns-in-Some
returns-in-Some c =
    let met : List (Option ℕ) = c.loop-step.met.items in
    let within : c.loop-step.sig.0 < length met = let marked : c.loop-step.sig.0 < length c.args.fed.now = marked_within c.args.fed.now c.loop-step.sig.0 c.loop-step.invariant.marked in
    let fed : length c.args.fed.now ≡ length c.args.wiring.now = c.requires.fed.size in let size : length met ≡ length c.args.wiring.now = c.loop-step.invariant.size in omega arith in
    let read : get_or met c.loop-step.sig.0 None ≡ c.index.result.now = get_or_default met c.loop-step.sig.0 None c.index.result.now within ∙ sym c.index.ensures in
    let ends : (c.in-Some.step ≤ c.loop-step.steps) × IsLoop c.args.wiring.now c.loop-step.sig (c.loop-step.steps - c.in-Some.step) =
    Walking-ends c.args.wiring.now c.args.fed.now met c.loop-step.sig c.loop-step.steps c.in-Some.step c.loop-step.invariant (read ∙ c.in-Some.is) in
    ends.1

pub loop-step-preserved : goal.loop-step-preserved
loop-step-preserved c =
    let met : List (Option ℕ) = c.loop-step.met.items in
    let within : c.loop-step.sig.0 < length met = let marked : c.loop-step.sig.0 < length c.args.fed.now = marked_within c.args.fed.now c.loop-step.sig.0 c.loop-step.invariant.marked in
    let fed : length c.args.fed.now ≡ length c.args.wiring.now = c.requires.fed.size in let size : length met ≡ length c.args.wiring.now = c.loop-step.invariant.size in omega arith in
    let read : get_or met c.loop-step.sig.0 None ≡ c.index.result.now = get_or_default met c.loop-step.sig.0 None c.index.result.now within ∙ sym c.index.ensures in
    let size : length met ≡ length c.args.wiring.now = c.loop-step.invariant.size in
    Walking-goes c.args.wiring.now c.args.fed.now met c.loop-step.sig c.next_marked-sig.result c.loop-step.steps c.loop-step.invariant (omega arith) (read ∙ c.in_default.is) c.next_marked-sig.ensures.next c.next_marked-sig.ensures.marked
