-- What a task forces from a view of known literals.
use Rattle.std.proofs.Common.{ℕ, ◌≡◌, ◌<◌, Bool, true, List, length, get_or, sym, ap, subst, ◌∙◌}
use Rattle.std.specs.List.{AllPairs, Contains}
use Rattle.std.proofs.lemmas.List.{get_or_default}
use Rattle.sr_model.specs.declared.cells.Cell.{Cell}
use Rattle.sr_model.specs.declared.cells.Lit.{Lit}
use Rattle.sr_model.specs.Closure.{lit}
use Rattle.unroll.specs.declared.problem.Block.{Block}
use Rattle.unroll.specs.declared.problem.Task.{Task}
use Rattle.unroll.specs.declared.words.PinWord.{PinWord}
use Rattle.unroll.specs.Problem.{Unrolling, IsProblem, block_of, bit_of, cell_of}
use Rattle.unroll.specs.Tasks.{IsTask, IsCellOf, target_of, target_block, chunk_of, blocks_of}
use Rattle.unroll.proofs.lemmas.Tasks.{some_chunk, blocks-ascend, cell-in_time}
use Rattle.unroll.proofs.lemmas.Laws.{chunk-within, cell-itself, bit-small, role, have_its_cells}
use Rattle.gate_rules.specs.Forced.{IsViewOf, AreForcedBy, AreForcedInCyclesBy, IsForcedExactly, IsForcedExactlyIn, lit_at_place, view_has}
use Rattle.gate_rules.proofs.NewLiterals.{view-at}
use Rattle.gate_rules.proofs.TaskForcing.{forced_by_cells, forced_in_cycles_by_cells}

module _ (u : Unrolling) (t : Task) (known : Lit → Bool) (view words : List PinWord) (is : IsProblem u) (task : IsTask u t) (size : length view ≡ length (blocks_of u t))
    (viewed : IsViewOf u (blocks_of u t) known view) where
  up : AllPairs (λ (a b : Block). a.0 < b.0) (blocks_of u t)
  up = blocks-ascend u (target_of u t) (chunk_of u t) (chunk-within u (target_block t) (some_chunk u is))

  -- on the task's cells the view has what is known
  view-known : (c : Cell) (bit : Bool) → IsCellOf u t c → view_has u (blocks_of u t) view (lit c bit) ≡ known (lit c bit)
  view-known c bit of =
      let early : c.cycle < u.cycles = cell-in_time u of.place c (role u of.place of.instance c of.stands of.has_cell) in
      let there : Contains (blocks_of u t) (block_of u c) = have_its_cells u t c is of in
      let at : get_or (blocks_of u t) there.0 (record { 0 = 0 }) ≡ block_of u c = get_or_default (blocks_of u t) there.0 (record { 0 = 0 }) (block_of u c) there.1 ∙ there.2 in
      let itself : lit_at_place u (blocks_of u t) there.0 bit (bit_of c) ≡ lit c bit =
      ap (λ b. lit (cell_of u b (bit_of c)) bit) at ∙ ap (λ x. lit x bit) (cell-itself u c early) in
      let in_time : (lit_at_place u (blocks_of u t) there.0 bit (bit_of c)).cell.cycle < u.cycles = subst (λ (l : Lit). l.cell.cycle < u.cycles) (sym itself) early in
      ap (view_has u (blocks_of u t) view) (sym itself) ∙ view-at u t (blocks_of u t) view words up size there.0 (bit_of c) bit there.1 (bit-small c) in_time
      ∙ viewed there.0 (bit_of c) bit there.1 (bit-small c) in_time ∙ ap known itself

  pub forced_by_view : (IsForcedExactly u t (blocks_of u t) view words → AreForcedBy u t (blocks_of u t) known words)
      × ((mask : ℕ) → IsForcedExactlyIn u t mask (blocks_of u t) view words → AreForcedInCyclesBy u t mask (blocks_of u t) known words)
  forced_by_view = (
    λ exact j i bit within lane. (
      λ set. forced_by_cells u t (view_has u (blocks_of u t) view) known there (lit_at_place u (blocks_of u t) j bit i) ((exact j i bit within lane).0 set),
      λ f. (exact j i bit within lane).1 (forced_by_cells u t known (view_has u (blocks_of u t) view) back (lit_at_place u (blocks_of u t) j bit i) f),
    ),
    λ mask exact j i bit within lane. (
      λ set. forced_in_cycles_by_cells u t (view_has u (blocks_of u t) view) known there mask (lit_at_place u (blocks_of u t) j bit i) ((exact j i bit within lane).0 set),
      λ f. (exact j i bit within lane).1 (forced_in_cycles_by_cells u t known (view_has u (blocks_of u t) view) back mask (lit_at_place u (blocks_of u t) j bit i) f),
    ),
  )
    where
      there : (c : Cell) (bit : Bool) → IsCellOf u t c → view_has u (blocks_of u t) view (lit c bit) ≡ true → known (lit c bit) ≡ true
      there c bit of h = sym (view-known c bit of) ∙ h

      back : (c : Cell) (bit : Bool) → IsCellOf u t c → known (lit c bit) ≡ true → view_has u (blocks_of u t) view (lit c bit) ≡ true
      back c bit of h = view-known c bit of ∙ h
