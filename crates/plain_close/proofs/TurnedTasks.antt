-- A task after its turn.
use Rattle.std.proofs.Common.{◌≡◌, ◌<◌, Bool, true, false, List, length, map, inl, inr, sym, ap, subst, ◌∙◌}
use Rattle.std.proofs.lemmas.Bool.{cases_Bool}
use Rattle.sr_model.specs.declared.cells.Cell.{Cell}
use Rattle.sr_model.specs.Closure.{HasBoth, lit}
use Rattle.unroll.specs.declared.problem.InChunk.{InChunk}
use Rattle.unroll.specs.declared.words.PinWord.{PinWord}
use Rattle.unroll.specs.Problem.{Unrolling, block_of, bit_of, block_in, chunks_in}
use Rattle.unroll.specs.Tasks.{drives_itself, task_in}
use Rattle.unroll.proofs.lemmas.Laws.{block-sig}
use Rattle.gate_rules.specs.Forced.{ForcedIn, IsDone}
use Rattle.gate_rules.proofs.lemmas.Laws.{done_once}
use Rattle.known_planes.specs.Planes.{PlaneSet, has, lits}
use Rattle.plain_close.specs.declared.turns.Turned.{Turned}
use Rattle.plain_close.specs.declared.worklist.Worklist.{Worklist}
use Rattle.plain_close.specs.Changes.{IsCalm}
use Rattle.plain_close.specs.Turns.{AreForced, JoinsFirst, Turns, Wakes, Falls, IsOutcome, IsTurn, HaveNoClash}
use Rattle.plain_close.proofs.Turning.{forced-added, has-bit_of, has-kept}

module _ (u : Unrolling) (task : InChunk) (early : task.chunk < chunks_in u) (old new : PlaneSet) (in_chunks : List InChunk) (out : List PinWord) (are : AreForced u old task in_chunks out)
    (joins : JoinsFirst (map (block_in u) in_chunks) out (length in_chunks) old new) (before after : Worklist) (wakes : Wakes u old new before after) where
  turns : Turns u (task_in u task) old new
  turns = forced-added u task old old new in_chunks out are joins

  -- where nothing was added
  done-same : new ≡ old → IsDone u (task_in u task) (has u new)
  done-same same l f = turns.done l (subst (λ (x : PlaneSet). ForcedIn u (task_in u task) (has u x) l) same f)

  -- where no cell has both literals, and the target is not its own pin behind a flip-flop
  done-without_clash : drives_itself u task.sig ≡ false → HaveNoClash new (map (block_in u) in_chunks) → IsDone u (task_in u task) (has u new)
  done-without_clash other none =
      done_once u (task_in u task) (has u old) (has u new) (ap (drives_itself u) (block-sig u task.sig task.chunk early) ∙ other)
      (λ l of. (
        turns.only l,
        λ h. elim h [
          | inl known ↦ has-kept u old new wakes.bits l known
          | inr f ↦ turns.done l f
        ],
      ))
      (λ c of both. none (block_of u c) (bit_of c) (are.has_cells c of) (has-bit_of u new (lit c false) both.0).1 (has-bit_of u new (lit c true) both.1).1)

  -- so after a turn that need not be followed by another one
  pub turn-is : (turned : Turned) → Falls u turned.added old new before after
      → (turned.again ≡ false → turned.added ≡ true → (drives_itself u task.sig ≡ false) × HaveNoClash new (map (block_in u) in_chunks)) → (turned.added ≡ false → turned.again ≡ false)
      → (turned.clash ≡ true → (c : Cell) × HasBoth (lits u new) c) → IsTurn u task turned old new before after
  turn-is turned falls other nothing clash = record {
    wakes = wakes;
    falls = falls;
    turns = turns;
    done = λ no_more. elim (cases_Bool turned.added) [
      | inl added ↦ done-without_clash (other no_more added).0 (other no_more added).1
      | inr none ↦ done-same (falls.same none).0
    ];
    nothing = nothing;
    clash = clash;
  }

  -- by what came of it
  pub turn-came : (added own_pin : Bool) → own_pin ≡ drives_itself u task.sig → Falls u added old new before after → (turned : Turned)
      → IsOutcome u new (map (block_in u) in_chunks) added own_pin turned → IsTurn u task turned old new before after
  turn-came added own_pin own falls turned came =
      turn-is turned (subst (λ b. Falls u b old new before after) (sym came.added_is) falls) (λ no_more some. (sym own ∙ (came.no_more no_more some).0, (came.no_more no_more some).1)) came.nothing came.clash

  -- after one that was calm: what the task saw and forced forces no more there
  pub turn-calm : (added clash : Bool) (turned : Turned) → Falls u added old new before after → turned.added ≡ added → (turned.clash ≡ true → clash ≡ true)
      → (turned.again ≡ false → turned.added ≡ true → clash ≡ false) → (turned.added ≡ false → turned.again ≡ false)
      → (clash ≡ false → IsCalm u (task_in u task) (has u old)) → (clash ≡ true → (c : Cell) × HasBoth (lits u new) c) → IsTurn u task turned old new before after
  turn-calm added clash turned falls added_is clashes no_more nothing calm both = record {
    wakes = wakes;
    falls = subst (λ b. Falls u b old new before after) (sym added_is) falls;
    turns = turns;
    done = λ last. elim (cases_Bool turned.added) [
      | inl some ↦ done-calm (calm (no_more last some))
      | inr none ↦ done-same (falls.same (sym added_is ∙ none)).0
    ];
    nothing = nothing;
    clash = λ told. both (clashes told);
  }
    where
      done-calm : IsCalm u (task_in u task) (has u old) → IsDone u (task_in u task) (has u new)
      done-calm none_left l f =
          elim (none_left (has u new) (λ c bit of h. turns.only (lit c bit) h) l f) [
            | inl known ↦ has-kept u old new wakes.bits l known
            | inr forced ↦ turns.done l forced
          ]
