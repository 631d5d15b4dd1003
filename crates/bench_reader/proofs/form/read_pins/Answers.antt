use Rattle.std.proofs.Common.{◌≡◌, ◌<◌, ◌∙◌, ◌++◌, ◌∷◌, [], ℕ, List, map, length, Some, refl, sym, ap, subst, rules, arith}
use Rattle.std.proofs.lemmas.List.{map-append}
use Rattle.std.proofs.lemmas.Bool.{false≢true}
use Rattle.bench_reader.specs.Grammar.{pin_tokens}
use Rattle.bench_reader.proofs.Pins.{read_whole, no_pin_left, none_closed}
use Rattle.bench_reader.proofs.form.read_pins.Goals as goal

pub returns-in_default-clause-none : goal.returns-in_default-clause-none
returns-in_default-clause-none c none names some whole =
    no_pin_left (map (λ pin. pin.now) c.loop-pin.pins.items) names c.args.text.now c.loop-pin.rest.now c.loop-pin.invariant (c.in_default.ensures.none refl) some whole

pub returns-in-None-clause-found : goal.returns-in-None-clause-found
returns-in-None-clause-found c closed =
    let names : map (λ pin. pin.now) c.push.new.self.items ≡ map (λ pin. pin.now) c.loop-pin.pins.items ++ c.in-Some.pin.now ∷ [] =
    ap (λ pins. map (λ pin. pin.now) pins) c.in-Ok.ensures.items ∙ map-append (λ pin. pin.now) c.loop-pin.pins.items (c.in-Some.pin ∷ []) in
    let whole = read_whole (map (λ pin. pin.now) c.loop-pin.pins.items) c.args.text.now c.loop-pin.rest.now c.in-Some.pin.now c.in-Some.after.now c.loop-pin.invariant
    c.in-Some.ensures.some (c.is_closed.ensures.0 closed) in (
      whole ∙ ap (λ (ns : List (List ℕ)). Some (pin_tokens ns)) (sym names),
      subst (λ items. 0 < length items) (sym c.in-Ok.ensures.items) (search (rules, arith)),
    )

pub returns-in-None-clause-none : goal.returns-in-None-clause-none
returns-in-None-clause-none c open_end names some whole =
    none_closed (map (λ pin. pin.now) c.loop-pin.pins.items) names c.args.text.now c.loop-pin.rest.now c.in-Some.pin.now c.in-Some.after.now c.loop-pin.invariant
    c.in-Some.ensures.some (c.in-None.ensures.none refl) (λ closed. false≢true (sym open_end ∙ c.is_closed.ensures.1 closed)) some whole
