use Rattle.std.proofs.Common.{◌≡◌, ◌≤◌, ◌∷◌, [], ◌++◌, length, take, lit<, ◌∙◌, false, true, sym, subst, arith, of_calls}
use Rattle.std.proofs.lemmas.Bool.{true≢false}
use Rattle.std.proofs.lemmas.List.{get_or_default, length-set, length_push, take_all}
use Rattle.std.proofs.lemmas.Iterator.Splits.{YieldsList-from_str_split}
use Rattle.std.proofs.lemmas.Iterator.Consumers.{YieldsList-turn, YieldsList-end}
use Rattle.sr_model.specs.Limits.{max_signals}
use Rattle.restore_program.specs.Tracing.{AreNamed, names_in}
use Rattle.restore_program.proofs.TraceSignals.{signals_few}
use Rattle.restore_program.proofs.TraceNames.{unknown-first, twice-first, named-more, marks-more, has-place}
use Rattle.restore_program.proofs.trace.traced_signals.Goals as goal

pub overflow_cast-item : goal.overflow_cast-item
overflow_cast-item c =
    let few : length c.loop-name.sigs.items ≤ max_signals = signals_few _ c.signals.ensures.circuit _ _ c.loop-name.invariant.1 in
    omega (arith, few, c.len-item.ensures)

pub returns-in_default-find-clause-refusal : goal.returns-in_default-find-clause-refusal
returns-in_default-find-clause-refusal c =
    let t = YieldsList-turn (YieldsList-from_str_split 44 c.args.list.now (lit< tt) (cc) (cc) (cc)) c.loop-name.yielded _ c.loop-name.yielded_by _ _ c.in-Some.name c.in-Some.is c.next.ensures.steps in
    unknown-first _ c.signals.ensures.circuit _ _ _ t.0 t.1 _ c.loop-name.invariant.1 _ (search of_calls) (search of_calls)

pub index-requires : goal.index-requires
index-requires c = has-place _ c.signals.ensures.circuit c.in-Some-find.sig _ c.in-Some-find.ensures.some _ (c.loop-name.marks.ok.0 ∙ c.loop-name.invariant.0)

pub returns-then-index-clause-refusal : goal.returns-then-index-clause-refusal
returns-then-index-clause-refusal c =
    let t = YieldsList-turn (YieldsList-from_str_split 44 c.args.list.now (lit< tt) (cc) (cc) (cc)) c.loop-name.yielded _ c.loop-name.yielded_by _ _ c.in-Some.name c.in-Some.is c.next.ensures.steps in
    let within = has-place _ c.signals.ensures.circuit c.in-Some-find.sig _ c.in-Some-find.ensures.some _ c.loop-name.invariant.0 in
    twice-first _ c.signals.ensures.circuit _ _ _ t.0 t.1 _ c.loop-name.invariant.1 c.in-Some-find.sig (search of_calls) _ (search of_calls)
    ((c.loop-name.invariant.2 c.in-Some-find.sig).0 (get_or_default c.loop-name.marks.items c.in-Some-find.sig.0 false c.index.result.now within ∙ sym c.index.ensures ∙ c.if-index.true))

pub index_mut-requires : goal.index_mut-requires
index_mut-requires c = has-place _ c.signals.ensures.circuit c.in-Some-find.sig _ c.in-Some-find.ensures.some _ (c.loop-name.marks.ok.0 ∙ c.loop-name.invariant.0)

pub loop-name-preserved : goal.loop-name-preserved
loop-name-preserved c =
    let t = YieldsList-turn (YieldsList-from_str_split 44 c.args.list.now (lit< tt) (cc) (cc) (cc)) c.loop-name.yielded _ c.loop-name.yielded_by _ _ c.in-Some.name c.in-Some.is c.next.ensures.steps in
    let within = has-place _ c.signals.ensures.circuit c.in-Some-find.sig _ c.in-Some-find.ensures.some _ c.loop-name.invariant.0 in
    let pushed : c.push.new.self.items ≡ c.loop-name.sigs.items ++ c.in-Some-find.sig ∷ [] = search of_calls in (
      length-set c.loop-name.marks.items c.in-Some-find.sig.0 true ∙ c.loop-name.invariant.0,
      subst (λ n. AreNamed c.args.n.now (take n (names_in c.args.list.now)) c.push.new.self.items) (sym (length_push c.loop-name.yielded c.in-Some.name))
          (named-more _ c.signals.ensures.circuit _ _ _ t.0 t.1 _ c.loop-name.invariant.1 c.in-Some-find.sig (search of_calls)
          (λ h. true≢false (sym ((c.loop-name.invariant.2 c.in-Some-find.sig).1 h) ∙ get_or_default c.loop-name.marks.items c.in-Some-find.sig.0 false c.index.result.now within ∙ sym c.index.ensures ∙ c.if-index.false)) c.push.new.self.items pushed),
      marks-more _ _ _ c.in-Some-find.sig within pushed c.loop-name.invariant.2,
    )

pub returns-clause-named : goal.returns-clause-named
returns-clause-named c =
    let t = YieldsList-end (YieldsList-from_str_split 44 c.args.list.now (lit< tt) (cc) (cc) (cc)) c.loop-name.yielded _ c.loop-name.yielded_by _ _ c.in-None.is c.next.ensures.steps in
    let all : length (names_in c.args.list.now) ≤ length c.loop-name.yielded = omega (arith, t.1) in
    subst (λ names. AreNamed c.args.n.now names c.loop-name.sigs.items) (take_all (length c.loop-name.yielded) (names_in c.args.list.now) all) c.loop-name.invariant.1
