use Rattle.std.proofs.Common.{ℕ, List, ◌≡◌, ◌<◌, ◌≤◌, length, get_or, true, false, subst, sym}
use Rattle.sr_model.specs.Netlist.{Driver}
use Rattle.netlist.specs.Loops.{IsNext}
use Rattle.netlist.specs.Ranking.{AreUnmarked, pin_at, pins_at}
use Rattle.netlist.proofs.Walks.{first_is_next}
use Rattle.netlist.proofs.loops.next_marked.Goals as goal

pub bounds-pins-first_marked : goal.bounds-pins-first_marked
bounds-pins-first_marked c =
    let drivers : List Driver = c.args.wiring.now in
    let n : ℕ = c.first_marked.result in
    let pins : c.pins_of-pins.result.now ≡ pins_at drivers c.args.sig.0 = c.pins_of-pins.ensures in
    let found : (n < length (pins_at drivers c.args.sig.0)) × (get_or c.args.fed.now (pin_at (pins_at drivers c.args.sig.0) n).0 false ≡ true → IsNext drivers c.args.sig (pin_at (pins_at drivers c.args.sig.0) n)) =
    first_is_next drivers c.args.fed.now c.args.sig n c.requires.fed c.requires.marked (subst (λ ps. n ≤ length ps) pins c.first_marked.ensures.within)
    (subst (λ ps. AreUnmarked c.args.fed.now ps n) pins c.first_marked.ensures.before) in
    subst (λ ps. n < length ps) (sym pins) found.0

pub returns-clause-marked : goal.returns-clause-marked
returns-clause-marked c =
    let drivers : List Driver = c.args.wiring.now in
    let n : ℕ = c.first_marked.result in
    let pins : c.pins_of-pins.result.now ≡ pins_at drivers c.args.sig.0 = c.pins_of-pins.ensures in
    let found : (n < length (pins_at drivers c.args.sig.0)) × (get_or c.args.fed.now (pin_at (pins_at drivers c.args.sig.0) n).0 false ≡ true → IsNext drivers c.args.sig (pin_at (pins_at drivers c.args.sig.0) n)) =
    first_is_next drivers c.args.fed.now c.args.sig n c.requires.fed c.requires.marked (subst (λ ps. n ≤ length ps) pins c.first_marked.ensures.within)
    (subst (λ ps. AreUnmarked c.args.fed.now ps n) pins c.first_marked.ensures.before) in
    c.first_marked.ensures.marked (subst (λ ps. n < length ps) (sym pins) found.0)

pub returns-clause-next : goal.returns-clause-next
returns-clause-next c =
    let drivers : List Driver = c.args.wiring.now in
    let n : ℕ = c.first_marked.result in
    let pins : c.pins_of-pins.result.now ≡ pins_at drivers c.args.sig.0 = c.pins_of-pins.ensures in
    let found : (n < length (pins_at drivers c.args.sig.0)) × (get_or c.args.fed.now (pin_at (pins_at drivers c.args.sig.0) n).0 false ≡ true → IsNext drivers c.args.sig (pin_at (pins_at drivers c.args.sig.0) n)) =
    first_is_next drivers c.args.fed.now c.args.sig n c.requires.fed c.requires.marked (subst (λ ps. n ≤ length ps) pins c.first_marked.ensures.within)
    (subst (λ ps. AreUnmarked c.args.fed.now ps n) pins c.first_marked.ensures.before) in
    subst (λ ps. IsNext drivers c.args.sig (pin_at ps n)) (sym pins)
    (found.1 (subst (λ ps. n < length ps → get_or c.args.fed.now (pin_at ps n).0 false ≡ true) pins c.first_marked.ensures.marked found.0))
