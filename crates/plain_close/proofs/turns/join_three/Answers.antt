use Rattle.gate_rules.specs.Lanes.{words_at_place}
use Rattle.known_planes.specs.Planes.{has_bit}
use Rattle.std.proofs.Common.{rules, refl, subst, sym, map, get_or, length, ◌<◌, ◌≡◌, ◌||◌, ℕ, Bool, true, inl, inr}
use Rattle.unroll.specs.declared.problem.InChunk.{InChunk}
use Rattle.unroll.specs.Problem.{block_in}
use Rattle.plain_close.specs.Turns.{HasEach, JoinsFirst, Wakes}
use Rattle.plain_close.proofs.CalmTasks.{calm-task}
use Rattle.unroll.specs.declared.problem.Block.{Block}
use Rattle.std.proofs.lemmas.Bool.{or_cases}
use Rattle.plain_close.proofs.Joining.{joins-at, joins-none, no_later-at}
use Rattle.plain_close.proofs.TurnedTasks.{turn-calm}
use Rattle.plain_close.proofs.Unknown.{clash-by, each-of-three, neither, no_clash-by, seen-in-block}
use Rattle.plain_close.proofs.Waking.{falls-then, wakes-then}
use Rattle.plain_close.proofs.turns.join_three.Goals as goal

abbrev nowhere : InChunk
nowhere = record { sig = record { 0 = 0 }; chunk = 0 }

pub join_unknown-target-requires-clause-no_later : goal.join_unknown-target-requires-clause-no_later
join_unknown-target-requires-clause-no_later c =
    no_later-at c.args.p.now c.args.forced.now.in_chunks 0 nowhere (get_or c.args.forced.now.in_chunks 0 nowhere) (search rules) refl c.args.forced.now.out c.requires.forced.inside c.requires.forced.later

pub join_unknown-first-requires-clause-no_later : goal.join_unknown-first-requires-clause-no_later
join_unknown-first-requires-clause-no_later c =
    no_later-at c.args.p.now c.args.forced.now.in_chunks 1 nowhere (get_or c.args.forced.now.in_chunks 1 nowhere) (search rules) refl c.args.forced.now.out c.requires.forced.inside c.requires.forced.later

pub join_unknown-first-requires-clause-known : goal.join_unknown-first-requires-clause-known
join_unknown-first-requires-clause-known c =
    seen-in-block c.args.p.now c.args.planes.now c.join_unknown-target.new.planes c.args.forced.now.in_chunks c.args.forced.now.known 1 nowhere c.requires.known (search rules) (λ bit i h. c.join_unknown-target.ensures.wakes.bits (block_in c.args.p.now (get_or c.args.forced.now.in_chunks 1 nowhere)) bit i h)

pub join_unknown-second-requires-clause-no_later : goal.join_unknown-second-requires-clause-no_later
join_unknown-second-requires-clause-no_later c =
    no_later-at c.args.p.now c.args.forced.now.in_chunks 2 nowhere (get_or c.args.forced.now.in_chunks 2 nowhere) (search rules) refl c.args.forced.now.out c.requires.forced.inside c.requires.forced.later

pub join_unknown-second-requires-clause-known : goal.join_unknown-second-requires-clause-known
join_unknown-second-requires-clause-known c =
    seen-in-block c.args.p.now c.args.planes.now c.join_unknown-first.new.planes c.args.forced.now.in_chunks c.args.forced.now.known 2 nowhere c.requires.known (search rules) (λ bit i h. c.join_unknown-first.ensures.wakes.bits (block_in c.args.p.now (get_or c.args.forced.now.in_chunks 2 nowhere)) bit i (c.join_unknown-target.ensures.wakes.bits (block_in c.args.p.now (get_or c.args.forced.now.in_chunks 2 nowhere)) bit i h))

pub returns : goal.returns
returns c =
    let one : JoinsFirst (map (block_in c.args.p.now) c.args.forced.now.in_chunks) c.args.forced.now.out 1 c.args.planes.now c.join_unknown-target.new.planes =
    joins-at c.args.p.now c.args.forced.now.in_chunks c.args.forced.now.out 0 nowhere c.args.planes.now c.args.planes.now c.join_unknown-target.new.planes (search rules) (joins-none (map (block_in c.args.p.now) c.args.forced.now.in_chunks) c.args.forced.now.out c.args.planes.now) c.join_unknown-target.ensures.joins in
    let two : JoinsFirst (map (block_in c.args.p.now) c.args.forced.now.in_chunks) c.args.forced.now.out 2 c.args.planes.now c.join_unknown-first.new.planes =
    joins-at c.args.p.now c.args.forced.now.in_chunks c.args.forced.now.out 1 nowhere c.args.planes.now c.join_unknown-target.new.planes c.join_unknown-first.new.planes (search rules) one c.join_unknown-first.ensures.joins in
    let three : JoinsFirst (map (block_in c.args.p.now) c.args.forced.now.in_chunks) c.args.forced.now.out 3 c.args.planes.now c.join_unknown-second.new.planes =
    joins-at c.args.p.now c.args.forced.now.in_chunks c.args.forced.now.out 2 nowhere c.args.planes.now c.join_unknown-first.new.planes c.join_unknown-second.new.planes (search rules) two c.join_unknown-second.ensures.joins in
    let joined : JoinsFirst (map (block_in c.args.p.now) c.args.forced.now.in_chunks) c.args.forced.now.out (length c.args.forced.now.in_chunks) c.args.planes.now c.join_unknown-second.new.planes = subst (λ n. JoinsFirst (map (block_in c.args.p.now) c.args.forced.now.in_chunks) c.args.forced.now.out n c.args.planes.now c.join_unknown-second.new.planes) (search rules) three in
    let wakes : Wakes c.args.p.now c.args.planes.now c.join_unknown-second.new.planes c.args.worklist.now c.join_unknown-second.new.worklist = wakes-then c.args.p.now c.args.planes.now c.join_unknown-first.new.planes c.join_unknown-second.new.planes c.args.worklist.now c.join_unknown-first.new.worklist c.join_unknown-second.new.worklist (wakes-then c.args.p.now c.args.planes.now c.join_unknown-target.new.planes c.join_unknown-first.new.planes c.args.worklist.now c.join_unknown-target.new.worklist c.join_unknown-first.new.worklist c.join_unknown-target.ensures.wakes c.join_unknown-first.ensures.wakes) c.join_unknown-second.ensures.wakes in
    let kept : (b : Block) (bit : Bool) (i : ℕ) → has_bit c.args.planes.now b bit i ≡ true → has_bit c.join_unknown-second.new.planes b bit i ≡ true = wakes.bits in
    turn-calm c.args.p.now c.args.task c.requires.task.early c.args.planes.now c.join_unknown-second.new.planes c.args.forced.now.in_chunks c.args.forced.now.out c.requires.forced joined
    c.args.worklist.now c.join_unknown-second.new.worklist
    wakes
    (c.join_unknown-second.result || (c.join_unknown-first.result || c.join_unknown-target.result)) (c.have_both.result || (c.have_both-2.result || c.have_both-3.result)) c.adding.result
    (falls-then c.args.p.now _ c.join_unknown-second.result c.args.planes.now c.join_unknown-first.new.planes c.join_unknown-second.new.planes c.args.worklist.now c.join_unknown-first.new.worklist c.join_unknown-second.new.worklist
    (falls-then c.args.p.now c.join_unknown-target.result c.join_unknown-first.result c.args.planes.now c.join_unknown-target.new.planes c.join_unknown-first.new.planes c.args.worklist.now c.join_unknown-target.new.worklist c.join_unknown-first.new.worklist c.join_unknown-target.ensures.falls c.join_unknown-first.ensures.falls) c.join_unknown-second.ensures.falls)
    c.adding.ensures.added c.adding.ensures.clash c.adding.ensures.again c.adding.ensures.nothing
    (λ none. let pins = (neither c.have_both.result (c.have_both-2.result || c.have_both-3.result) none).1 in
    calm-task c.args.p.now c.args.task c.requires.task.early c.args.planes.now c.args.forced.now.in_chunks c.args.forced.now.out c.requires.forced (sym c.requires.other_pins)
    (no_clash-by c.args.p.now c.args.planes.now c.args.forced.now.in_chunks c.args.forced.now.known c.args.forced.now.out c.requires.known
    (λ j within. each-of-three (λ j. (i : ℕ) → i < 64 → HasEach (words_at_place c.args.forced.now.known j) (words_at_place c.args.forced.now.out j) i → ⊥) (c.have_both.ensures.none (neither c.have_both.result (c.have_both-2.result || c.have_both-3.result) none).0) (c.have_both-2.ensures.none (neither c.have_both-2.result c.have_both-3.result pins).0)
    (c.have_both-3.ensures.none (neither c.have_both-2.result c.have_both-3.result pins).1) j (subst (λ n. j < n) (search rules) within))))
    (λ some. elim (or_cases c.have_both.result (c.have_both-2.result || c.have_both-3.result) some) [
      | inl target ↦ clash-by c.args.p.now c.args.planes.now c.join_unknown-second.new.planes c.args.forced.now.in_chunks c.args.forced.now.known c.args.forced.now.out c.requires.known c.requires.forced.inside c.join_unknown-second.ensures.wakes.of kept joined 0 (search rules) (c.have_both.ensures.some target)
      | inr pins ↦ elim (or_cases c.have_both-2.result c.have_both-3.result pins) [
        | inl first ↦ clash-by c.args.p.now c.args.planes.now c.join_unknown-second.new.planes c.args.forced.now.in_chunks c.args.forced.now.known c.args.forced.now.out c.requires.known c.requires.forced.inside c.join_unknown-second.ensures.wakes.of kept joined 1 (search rules) (c.have_both-2.ensures.some first)
        | inr second ↦ clash-by c.args.p.now c.args.planes.now c.join_unknown-second.new.planes c.args.forced.now.in_chunks c.args.forced.now.known c.args.forced.now.out c.requires.known c.requires.forced.inside c.join_unknown-second.ensures.wakes.of kept joined 2 (search rules) (c.have_both-3.ensures.some second)
      ]
    ])
