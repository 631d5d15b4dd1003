-- The tasks that wait where planes have something that they may force from.
use Rattle.std.proofs.Common.{ℕ, ◌≡◌, ◌+◌, ◌/◌, ◌||◌, Bool, true, false, arith, inl, inr, refl, sym, ap, subst, ◌∙◌}
use Rattle.std.specs.List.{Contains}
use Rattle.std.proofs.lemmas.Bool.{cases_lt, or_left, or_right, true≢false}
use Rattle.sr_model.specs.declared.cells.Cell.{Cell}
use Rattle.sr_model.specs.declared.cells.Lit.{Lit}
use Rattle.sr_model.specs.Closure.{lit}
use Rattle.unroll.specs.declared.problem.InChunk.{InChunk}
use Rattle.unroll.specs.declared.problem.Task.{Task}
use Rattle.unroll.specs.declared.words.PinWord.{PinWord}
use Rattle.unroll.specs.Bits.{is_set, word_for}
use Rattle.unroll.specs.Laws.{ForcesFromNothing, IsWoken}
use Rattle.unroll.specs.Problem.{Unrolling, IsInside, IsProblem, signals_in, block_in, bit_of}
use Rattle.unroll.specs.Tasks.{IsCellOf, constant_tasks, target_of, chunk_of}
use Rattle.unroll.proofs.lemmas.Laws.{cycle-chunk, force_from_nothing, fresh_bits_wake}
use Rattle.unroll.proofs.lemmas.Words.{is_set_zero}
use Rattle.gate_rules.specs.Forced.{ForcedIn}
use Rattle.gate_rules.proofs.lemmas.Laws.{forced_by_cells}
use Rattle.known_planes.specs.Planes.{PlaneSet, IsOf, has, has_bit, words_at}
use Rattle.known_planes.proofs.lemmas.Laws.{literals_are_of_cells}
use Rattle.plain_close.specs.declared.worklist.Worklist.{Worklist}
use Rattle.plain_close.specs.Worklist.{IsSettled, IsStirred, IsWorklistOf, Pushed, Stirs, StirsChunk, StirsChunks, TaskWaits}
use Rattle.plain_close.proofs.Turning.{has-bit_of}
use Rattle.plain_close.proofs.Waking.{waits-or}

-- a known bit of the words is one of either
known-bit : (w : PinWord) (known : ℕ) → ((i : ℕ) → is_set known i ≡ (is_set w.zero i || is_set w.one i)) → (bit : Bool) (i : ℕ) → is_set (word_for bit w) i ≡ true → is_set known i ≡ true
known-bit w known is true i set = is i ∙ or_right (is_set w.zero i) (is_set w.one i) set
known-bit w known is false i set = is i ∙ or_left (is_set w.zero i) (is_set w.one i) set

module _ (u : Unrolling) (planes : PlaneSet) where
  module _ (chunk : ℕ) where
    pub stirs-none : (q : Worklist) → IsWorklistOf u q → StirsChunk u planes chunk 0 q q
    stirs-none q are = record { of = are; kept = λ t h. h; stirred = λ s few. absurd (omega (arith, few)) }

    module _ (n : ℕ) (a b : Worklist) (before : StirsChunk u planes chunk n a b) (w : PinWord) (w_is : w ≡ words_at planes (block_in u (record { sig = record { 0 = n }; chunk = chunk })))
        (known : ℕ) (known_is : (i : ℕ) → is_set known i ≡ (is_set w.zero i || is_set w.one i)) where
      abbrev this : InChunk
      this = record { sig = record { 0 = n }; chunk = chunk }

      -- a literal there is a known bit
      known-here : (bit : Bool) (i : ℕ) → has_bit planes (block_in u this) bit i ≡ true → is_set known i ≡ true
      known-here bit i h = known-bit w known known_is bit i (ap (λ v. is_set (word_for bit v) i) w_is ∙ h)

      stirs-more : (c : Worklist) → IsWorklistOf u c → ((t : Task) → TaskWaits u b t → TaskWaits u c t) → IsStirred u planes this c → StirsChunk u planes chunk (n + 1) a c
      stirs-more c are kept here = record {
        of = are;
        kept = λ t h. kept t (before.kept t h);
        stirred = λ s few. elim (cases_lt s.0 n) [
          | inl below ↦ λ t x bit task of block h. kept t (before.stirred s below t x bit task of block h)
          | inr past ↦
              let same : record { 0 = n } ≡ s = ap (λ k. record { 0 = k }) (omega (arith, past, few)) in
              subst (λ r. IsStirred u planes (record { sig = r; chunk = chunk }) c) same here
        ];
      }

      -- one signal more, of which something is known
      pub stirs-woken : IsProblem u → IsInside u this → (c : Worklist) → Pushed u (IsWoken u this known) b c → StirsChunk u planes chunk (n + 1) a c
      stirs-woken is inside c p =
          stirs-more c p.of p.kept (λ t x bit task of block h. p.pushed t (fresh_bits_wake u this known t x is inside task of block (known-here bit (bit_of x) h)))

      -- or nothing
      pub stirs-unknown : known ≡ 0 → StirsChunk u planes chunk (n + 1) a b
      stirs-unknown nothing =
          stirs-more b before.of (λ t h. h) (λ t x bit task of block h. absurd (true≢false (sym (known-here bit (bit_of x) h) ∙ ap (λ k. is_set k (bit_of x)) nothing ∙ is_set_zero (bit_of x))))

  -- one chunk more
  pub chunks-none : (q : Worklist) → IsWorklistOf u q → StirsChunks u planes 0 q q
  chunks-none q are = record { of = are; kept = λ t h. h; stirred = λ at few early. absurd (omega (arith, early)) }

  pub chunks-more : (n : ℕ) (a b c : Worklist) → StirsChunks u planes n a b → StirsChunk u planes n (signals_in u) b c → StirsChunks u planes (n + 1) a c
  chunks-more n a b c before step = record {
    of = step.of;
    kept = λ t h. step.kept t (before.kept t h);
    stirred = λ at few early. elim (cases_lt at.chunk n) [
      | inl below ↦ λ t x bit task of block h. step.kept t (before.stirred at few below t x bit task of block h)
      | inr past ↦
          let same : n ≡ at.chunk = omega (arith, past, early) in
          subst (λ k. IsStirred u planes (record { sig = at.sig; chunk = k }) c) same (step.stirred at.sig few)
    ];
  }

  -- where each task waits that forces something from nothing, or that a literal is in, the others are done
  pub settled-stirred : IsProblem u → IsOf u planes → (a b c : Worklist) → Pushed u (Contains (constant_tasks u)) a b → Stirs u planes b c → IsSettled u planes c
  settled-stirred is of a b c constants stirs t task =
      elim (waits-or c (target_of u t) (chunk_of u t)) [
        | inl waits ↦ inl waits
        | inr none ↦ inr (λ l f. absurd (none (stirs.kept t (constants.pushed t (((force_from_nothing u is).1 t).1 (task, from_nothing none l f))))))
      ]
    where
      unknown : (TaskWaits u c t → ⊥) → (x : Cell) (bit : Bool) → IsCellOf u t x → has u planes (lit x bit) ≡ true → ⊥
      unknown none x bit of_task h =
          let parts = has-bit_of u planes (lit x bit) h in
          none (stirs.stirred (record { sig = x.sig; chunk = x.cycle / 64 }) (literals_are_of_cells u planes (lit x bit) of h).0 (cycle-chunk u x.cycle parts.0) t x bit task of_task refl parts.1)

      from_nothing : (TaskWaits u c t → ⊥) → (l : Lit) → ForcedIn u t (has u planes) l → ForcesFromNothing u t
      from_nothing none l f =
          let g : ForcedIn u t (λ _. false) l = forced_by_cells u t (has u planes) (λ _. false) (λ x bit of_task h. absurd (unknown none x bit of_task h)) l f in
          record { place = g.place; belongs = g.belongs; l = l; forces = g.forces }
