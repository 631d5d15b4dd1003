-- A log, level by level.
use Rattle.std.proofs.Common.{ℕ, suc, ◌≡◌, ◌≢◌, ◌<◌, ◌≤◌, ◌+◌, ◌-◌, ◌*◌, ◌↔◌, ◌++◌, ◌∷◌, [], true, false, List, length, length-append, Option, Some, None, arith, inl, inr, refl, sym, ap, subst, ◌∙◌}
use Rattle.std.specs.List.{All}
use Rattle.std.specs.Option.{is_some}
use Rattle.std.specs.Prelude.{IsNone, IfSome}
use Rattle.std.proofs.lemmas.Bool.{true≢false}
use Rattle.std.proofs.lemmas.List.{append-nil, append_assoc}
use Rattle.std.proofs.lemmas.List.Elements.{All-append, All-weaker}
use Rattle.sr_model.specs.declared.cells.Cell.{Cell}
use Rattle.sr_model.specs.Closure.{ForcesAt, HasBoth, IsLeastClash, lit}
use Rattle.unroll.specs.Problem.{Unrolling, blocks_in, signals_in, unrolled}
use Rattle.known_planes.specs.Counts.{literal_count}
use Rattle.known_planes.specs.Planes.{PlaneSet, has, lits}
use Rattle.known_planes.proofs.lemmas.Laws.{literals_are_bits, literals_are_of_cells}
use Rattle.plain_close.specs.declared.changes.Added.{Added}
use Rattle.plain_close.specs.declared.log.Level.{Level}
use Rattle.plain_close.specs.declared.log.Step.{Step}
use Rattle.plain_close.specs.Levels.{GoesToNext, IsLevel}
use Rattle.plain_close.specs.Log.{AreNextSteps, HasNoClash, IsLog, IsLogFrom, clashes, ends, goes_on}
use Rattle.plain_close.specs.Wavefront.{level_of}

-- what is known of a level's clash
abbrev pub IsClashOf : Unrolling → PlaneSet → ℕ → Option Cell → Type 0
IsClashOf u base i None = HasNoClash (level_of u base i)
IsClashOf u base i (Some cell) = IsLeastClash (level_of u base i) cell × (cell.sig.0 < signals_in u)

-- the steps up to a level: what follows from it on comes after them
pub record IsLoggedTo (u : Unrolling) (base : PlaneSet) (i : ℕ) (level : Level) (steps : List Step) (clash : Option Cell) : Type 0 where
  pub level_is : IsLevel u base i level
  pub before : (later : List Step) (last : Option Cell) → IsLogFrom (unrolled u) (lits u base) i later last → IsLogFrom (unrolled u) (lits u base) 0 (steps ++ later) last
  pub within : All (λ step. step.lit.cell.sig.0 < signals_in u) steps
  pub clash_is : IsClashOf u base i clash

-- the clash of planes that have a level's literals
pub clash-of : (u : Unrolling) (base planes : PlaneSet) (i : ℕ) → ((l : _) → (has u planes l ≡ true) ↔ level_of u base i l) → (clash : Option Cell) → IfSome clash (IsLeastClash (lits u planes))
    → IfSome clash (λ c. c.sig.0 < signals_in u) → (IsNone clash → (c : Cell) → HasBoth (lits u planes) c → ⊥) → IsClashOf u base i clash
clash-of u base planes i literals None some within none = λ c both. none refl c ((literals (lit c false)).1 both.0, (literals (lit c true)).1 both.1)
clash-of u base planes i literals (Some cell) some within none = (
  record {
    both = ((literals (lit cell false)).0 some.both.0, (literals (lit cell true)).0 some.both.1);
    least = λ d both. some.least d ((literals (lit d false)).1 both.0, (literals (lit d true)).1 both.1);
  },
  within,
)

pub clash-within : (u : Unrolling) (base : PlaneSet) (i : ℕ) (clash : Option Cell) → IsClashOf u base i clash → IfSome clash (λ cell. cell.sig.0 < signals_in u)
clash-within u base i None is = tt
clash-within u base i (Some cell) is = is.1

-- at the base
pub logged-none : (u : Unrolling) (base : PlaneSet) (level : Level) (steps : List Step) (clash : Option Cell) → IsLevel u base 0 level → steps ≡ [] → IsClashOf u base 0 clash → IsLoggedTo u base 0 level steps clash
logged-none u base level steps clash is none clash_is = record {
  level_is = is;
  before = λ later last from. subst (λ xs. IsLogFrom (unrolled u) (lits u base) 0 (xs ++ later) last) (sym none) from;
  within = subst (All (λ step. step.lit.cell.sig.0 < signals_in u)) (sym none) (λ k d few. absurd (omega (arith, few)));
  clash_is = clash_is;
}

module _ (u : Unrolling) (base : PlaneSet) (i : ℕ) (level : Level) (steps : List Step) where
  -- the log ends where a cell has both
  pub logged-clash : (clash : Option Cell) → is_some clash ≡ true → IsLoggedTo u base i level steps clash → IsLog (unrolled u) (lits u base) steps clash
  logged-clash None some so = absurd (true≢false (sym some))
  logged-clash (Some cell) some so =
      subst (λ xs. IsLogFrom (unrolled u) (lits u base) 0 xs (Some cell)) (append-nil steps) (so.before [] (Some cell) (clashes i cell so.clash_is.0))

  no-clash : (clash : Option Cell) → is_some clash ≡ false → IsClashOf u base i clash → HasNoClash (level_of u base i)
  no-clash None none is = is
  no-clash (Some cell) none is = absurd (true≢false none)

  module _ (clash : Option Cell) (none : is_some clash ≡ false) (so : IsLoggedTo u base i level steps clash) (added : Added) (new : Level) (after : List Step) (goes : GoesToNext u base i added level new steps after) where
    sizes : length after ≡ length steps + length goes.now
    sizes = ap length goes.logged ∙ length-append steps goes.now

    -- or where nothing follows
    pub logged-end : length after ≡ length steps → IsLog (unrolled u) (lits u base) after None × All (λ step. step.lit.cell.sig.0 < signals_in u) after
    logged-end same =
        let empty : goes.now ≡ [] = nothing goes.now (omega (arith, sizes, same)) in
        let all : after ≡ steps ++ [] = goes.logged ∙ ap (λ xs. steps ++ xs) empty in (
          subst (λ xs. IsLogFrom (unrolled u) (lits u base) 0 xs None) (sym all)
              (so.before [] None (ends i (no-clash clash none so.clash_is) (subst (AreNextSteps (unrolled u) (level_of u base i)) empty goes.steps))),
          subst (All (λ step. step.lit.cell.sig.0 < signals_in u)) (sym (all ∙ append-nil steps)) so.within,
        )
      where
        nothing : (xs : List Step) → length xs ≡ 0 → xs ≡ []
        nothing [] h = refl
        nothing (x ∷ xs) h = absurd (omega (arith, h))

    some-now : (length after ≡ length steps → ⊥) → goes.now ≢ []
    some-now more empty = let e : length goes.now ≡ 0 = ap length empty in more (omega (arith, sizes, e))

    -- it goes on where something does
    pub logged-on : (length after ≡ length steps → ⊥) → (next : Option Cell) → IsClashOf u base (suc i) next → IsLoggedTo u base (suc i) new after next
    logged-on more next clash_is = record {
      level_is = goes.level;
      before = λ later last from.
          subst (λ xs. IsLogFrom (unrolled u) (lits u base) 0 xs last) (sym (ap (λ xs. xs ++ later) goes.logged ∙ append_assoc steps goes.now later))
          (so.before (goes.now ++ later) last (goes_on i goes.now later last (no-clash clash none so.clash_is) goes.steps (some-now more) from));
      within = subst (All (λ step. step.lit.cell.sig.0 < signals_in u)) (sym goes.logged)
          (All-append (λ step. step.lit.cell.sig.0 < signals_in u) steps goes.now so.within
          (All-weaker (λ step. ForcesAt (unrolled u) (level_of u base i) step.place step.lit) (λ step. step.lit.cell.sig.0 < signals_in u)
          (λ step f. (literals_are_of_cells u new.planes step.lit goes.level.of ((goes.level.literals step.lit).1 (inr (step.place, f)))).0) goes.now goes.steps.forced));
      clash_is = clash_is;
    }

    -- no cell has both where none has come to
    pub still-none : added.clash ≡ false → IsClashOf u base (suc i) clash
    still-none same = go clash none so.clash_is
      where
        go : (clash : Option Cell) → is_some clash ≡ false → IsClashOf u base i clash → IsClashOf u base (suc i) clash
        go None none is = λ c both.
            let old = goes.clash same c ((goes.level.literals (lit c false)).1 both.0, (goes.level.literals (lit c true)).1 both.1) in
            is c ((so.level_is.literals (lit c false)).0 old.0, (so.level_is.literals (lit c true)).0 old.1)
        go (Some cell) none is = absurd (true≢false none)

    -- there are only so many literals
    pub fewer-left : (length after ≡ length steps → ⊥) → 536870912 - literal_count u new.planes < 536870912 - literal_count u level.planes
    fewer-left more =
        let less : literal_count u level.planes < literal_count u new.planes = goes.more (some-now more) in
        let few : literal_count u new.planes ≤ 128 * blocks_in u = literals_are_bits u new.planes goes.level.of in
        omega (arith, less, few, goes.level.problem.few_blocks)
