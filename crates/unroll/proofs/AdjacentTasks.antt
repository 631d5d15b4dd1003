-- The tasks that a block is in, by their places in the list.
use Rattle.std.proofs.Common.{ℕ, zero, suc, ◌≡◌, ◌-◌, ◌<◌, ◌≤◌, ◌&&◌, true, not, eqb, ltb, cond, get_or, option_map, Option, Some, None, List, [], ◌∷◌, ◌++◌, map, length, arith, inl, inr, refl, sym, ap, ◌∙◌, subst, slice_get}
use Rattle.std.specs.List.{All, Contains}
use Rattle.std.specs.Prelude.{IfSome}
use Rattle.std.proofs.lemmas.Bool.{cases_Bool, cond-true, cond-false, true≢false}
use Rattle.std.proofs.lemmas.List.Elements.{All-filter, All-get_or, All-contains, Contains-append_cases, Contains-push_cases}
use Rattle.std.proofs.lemmas.List.Sums.{count_by-le-length, length-filter}
use Rattle.std.proofs.lemmas.List.FromFn.{length-map-range_with_len}
use Rattle.std.proofs.lemmas.Option.{slice_get-map, slice_get-get_or, slice_get_past, slice_get_within, get_or_from_slice_get}
use Rattle.sr_model.specs.declared.cells.Sig.{Sig}
use Rattle.sr_model.specs.Netlist.{Driver, Input, Driven}
use Rattle.sr_model.proofs.lemmas.Members.{not_in_nil, Contains-cases, map-member, filter-member, filter-passes}
use Rattle.netlist.specs.Wiring.{driver_at, is_driven, is_flip_flop, reads, readers, other_readers, signals_below}
use Rattle.netlist.proofs.lemmas.Signals.{signals_within}
use Rattle.unroll.specs.declared.problem.Task.{Task}
use Rattle.unroll.specs.Problem.{Unrolling, signals_in, chunks_in}
use Rattle.unroll.specs.Tasks.{IsTask, task_at, own_tasks, adjacent_from}
use Rattle.unroll.proofs.BlockNumbers.{block-sig, block-within}

pub slice_get-later : {X : Type 0} (xs ys : List X) (i : ℕ) → length xs ≤ i → slice_get (xs ++ ys) i ≡ slice_get ys (i - length xs)
slice_get-later [] ys i h = ap (slice_get ys) (less-none i) where
  less-none : (n : ℕ) → n ≡ n - 0
  less-none n = omega arith
slice_get-later (x ∷ xs) ys zero h = absurd (omega arith)
slice_get-later (x ∷ xs) ys (suc i) h = slice_get-later xs ys i (omega arith) ∙ ap (slice_get ys) (less-one i (length xs)) where
  less-one : (m n : ℕ) → m - n ≡ suc m - suc n
  less-one m n = omega arith

pub slice_get-earlier : {X : Type 0} (xs ys : List X) (i : ℕ) → i < length xs → slice_get (xs ++ ys) i ≡ slice_get xs i
slice_get-earlier [] ys i h = absurd (omega arith)
slice_get-earlier (x ∷ xs) ys zero h = refl
slice_get-earlier (x ∷ xs) ys (suc i) h = slice_get-earlier xs ys i (omega arith)

-- the other readers are signals of the netlist, and not more
pub other_readers-within : (drivers : List Driver) (s : Sig) → All (λ r. r.0 < length drivers) (other_readers drivers s)
other_readers-within drivers s =
    All-filter (λ t. not (eqb t.0 s.0)) (λ r. r.0 < length drivers) (readers drivers s)
    (All-filter (λ t. reads (driver_at drivers t.0) s) (λ r. r.0 < length drivers) (signals_below (length drivers)) (signals_within (length drivers)))

pub few-other_readers : (drivers : List Driver) (s : Sig) → length (other_readers drivers s) ≤ length drivers
few-other_readers drivers s =
    let fewer : length (other_readers drivers s) ≤ length (readers drivers s) =
    omega (arith, length-filter (λ t. not (eqb t.0 s.0)) (readers drivers s), count_by-le-length (λ (t : Sig). not (eqb t.0 s.0)) (readers drivers s)) in
    let few : length (readers drivers s) ≤ length (signals_below (length drivers)) =
    omega (
      arith,
      length-filter (λ t. reads (driver_at drivers t.0) s) (signals_below (length drivers)),
      count_by-le-length (λ (t : Sig). reads (driver_at drivers t.0) s) (signals_below (length drivers)),
    ) in
    omega (arith, fewer, few, length-map-range_with_len {X = Sig} (λ s. record { 0 = s }) 0 (length drivers))

-- a driven signal's own tasks
pub own-task : (u : Unrolling) (d : Driver) (s : Sig) (chunk i : ℕ) → i < length (own_tasks u d s chunk)
    → slice_get (own_tasks u d s chunk) i ≡ Some (task_at u s (chunk - (length (own_tasks u d s chunk) - 1 - i)))
own-task u Input s chunk i h = absurd (omega arith)
own-task u (Driven kind pins) s chunk i h =
    elim (cases_Bool (is_flip_flop (Driven kind pins) && ltb 0 chunk)) [
      | inl two ↦
          let is : own_tasks u (Driven kind pins) s chunk ≡ task_at u s (chunk - 1) ∷ task_at u s chunk ∷ [] =
          ap (λ ts. ts ++ task_at u s chunk ∷ []) (cond-true (is_flip_flop (Driven kind pins) && ltb 0 chunk) (task_at u s (chunk - 1) ∷ []) [] two) in
          subst (λ ts. slice_get ts i ≡ Some (task_at u s (chunk - (length ts - 1 - i)))) (sym is) (of-two i (subst (λ (ts : List Task). i < length ts) is h))
      | inr one ↦
          let is : own_tasks u (Driven kind pins) s chunk ≡ task_at u s chunk ∷ [] =
          ap (λ ts. ts ++ task_at u s chunk ∷ []) (cond-false (is_flip_flop (Driven kind pins) && ltb 0 chunk) (task_at u s (chunk - 1) ∷ []) [] one) in
          subst (λ ts. slice_get ts i ≡ Some (task_at u s (chunk - (length ts - 1 - i)))) (sym is) (of-one i (subst (λ (ts : List Task). i < length ts) is h))
    ]
  where
    at : (m n : ℕ) → m ≡ n → Some (task_at u s m) ≡ Some (task_at u s n)
    at m n e = ap (λ k. Some (task_at u s k)) e

    of-two : (k : ℕ) → k < 2 → slice_get (task_at u s (chunk - 1) ∷ task_at u s chunk ∷ []) k ≡ Some (task_at u s (chunk - (2 - 1 - k)))
    of-two zero few = at (chunk - 1) (chunk - (2 - 1 - 0)) (omega arith)
    of-two (suc zero) few = at chunk (chunk - (2 - 1 - 1)) (omega arith)
    of-two (suc (suc k)) few = absurd (omega arith)

    of-one : (k : ℕ) → k < 1 → slice_get (task_at u s chunk ∷ []) k ≡ Some (task_at u s (chunk - (1 - 1 - k)))
    of-one zero few = at chunk (chunk - (1 - 1 - 0)) (omega arith)
    of-one (suc k) few = absurd (omega arith)

module _ (u : Unrolling) (s : Sig) (chunk i own : ℕ) (size : own ≡ length (own_tasks u (driver_at u.circuit.drivers s.0) s chunk)) where
  -- the first tasks of the list are the signal's own
  pub own-adjacent : i < own → slice_get (adjacent_from u s chunk) i ≡ Some (task_at u s (chunk - (own - 1 - i)))
  own-adjacent h =
      let within : i < length (own_tasks u (driver_at u.circuit.drivers s.0) s chunk) = subst (λ n. i < n) size h in
      slice_get-earlier (own_tasks u (driver_at u.circuit.drivers s.0) s chunk) (map (λ r. task_at u r chunk) (other_readers u.circuit.drivers s)) i within
      ∙ own-task u (driver_at u.circuit.drivers s.0) s chunk i within ∙ ap (λ n. Some (task_at u s (chunk - (n - 1 - i)))) (sym size)

  -- the others are those of its other readers
  pub reader-adjacent : own ≤ i → slice_get (adjacent_from u s chunk) i ≡ option_map (λ r. task_at u r chunk) (slice_get (other_readers u.circuit.drivers s) (i - own))
  reader-adjacent h =
      slice_get-later (own_tasks u (driver_at u.circuit.drivers s.0) s chunk) (map (λ r. task_at u r chunk) (other_readers u.circuit.drivers s)) i (subst (λ n. n ≤ i) size h)
      ∙ ap (λ n. slice_get (map (λ r. task_at u r chunk) (other_readers u.circuit.drivers s)) (i - n)) (sym size)
      ∙ slice_get-map (λ r. task_at u r chunk) (other_readers u.circuit.drivers s) (i - own)

-- a reader's place in the list of the tasks that a block is in
pub reader-at : (u : Unrolling) (s : Sig) (chunk i own : ℕ) → own ≡ length (own_tasks u (driver_at u.circuit.drivers s.0) s chunk) → own ≤ i → (rs : List Sig) → rs ≡ other_readers u.circuit.drivers s
    → (d : Sig) → i - own < length rs → (t : Task) → t ≡ task_at u (get_or rs (i - own) d) chunk → Some t ≡ slice_get (adjacent_from u s chunk) i
reader-at u s chunk i own size h rs same d within t is =
    ap Some is ∙ ap (option_map (λ r. task_at u r chunk)) (sym (slice_get-get_or rs (i - own) d within))
    ∙ ap (λ xs. option_map (λ r. task_at u r chunk) (slice_get xs (i - own))) same ∙ sym (reader-adjacent u s chunk i own size h)

pub none-at : (u : Unrolling) (s : Sig) (chunk i own : ℕ) → own ≡ length (own_tasks u (driver_at u.circuit.drivers s.0) s chunk) → own ≤ i → (rs : List Sig) → rs ≡ other_readers u.circuit.drivers s
    → length rs ≤ i - own → None ≡ slice_get (adjacent_from u s chunk) i
none-at u s chunk i own size h rs same past =
    ap (option_map (λ r. task_at u r chunk)) (sym (slice_get_past rs (i - own) past))
    ∙ ap (λ xs. option_map (λ r. task_at u r chunk) (slice_get xs (i - own))) same ∙ sym (reader-adjacent u s chunk i own size h)

pub reader-within : (drivers : List Driver) (s : Sig) (rs : List Sig) → rs ≡ other_readers drivers s → (i : ℕ) (d : Sig) → i < length rs → (get_or rs i d).0 < length drivers
reader-within drivers s rs same i d within =
    All-get_or (λ r. r.0 < length drivers) rs i d within (subst (All (λ r. r.0 < length drivers)) (sym same) (other_readers-within drivers s))

-- what reads a signal is driven
reads-driven : (d : Driver) (s : Sig) → reads d s ≡ true → is_driven d ≡ true
reads-driven Input s e = absurd (true≢false (sym e))
reads-driven (Driven kind pins) s e = refl

pub reader-driven : (drivers : List Driver) (s r : Sig) → Contains (other_readers drivers s) r → (r.0 < length drivers) × (is_driven (driver_at drivers r.0) ≡ true)
reader-driven drivers s r h = (
  All-contains (λ x. x.0 < length drivers) (other_readers drivers s) r (other_readers-within drivers s) h,
  reads-driven (driver_at drivers r.0) s
      (filter-passes (λ x. reads (driver_at drivers x.0) s) (signals_below (length drivers)) r (filter-member (λ x. not (eqb x.0 s.0)) (readers drivers s) r h)),
)

module _ (u : Unrolling) (chunk : ℕ) (early : chunk < chunks_in u) where
  pub driven-task : (s : Sig) → s.0 < signals_in u → is_driven (driver_at u.circuit.drivers s.0) ≡ true → IsTask u (task_at u s chunk)
  driven-task s signal driven = (
    block-within u s chunk early signal,
    ap (λ (x : Sig). is_driven (driver_at u.circuit.drivers x.0)) (block-sig u s chunk early) ∙ driven,
  )

-- a driven signal's own tasks, and those of its other readers, are tasks
pub adjacent-task : (u : Unrolling) (s : Sig) (chunk : ℕ) → chunk < chunks_in u → s.0 < signals_in u → (t : Task) → Contains (adjacent_from u s chunk) t → IsTask u t
adjacent-task u s chunk early signal t h =
    elim (Contains-append_cases (own_tasks u (driver_at u.circuit.drivers s.0) s chunk) (map (λ r. task_at u r chunk) (other_readers u.circuit.drivers s)) t h) [
      | inl own ↦ at-own (driver_at u.circuit.drivers s.0) refl own
      | inr later ↦
          let found : (r : Sig) × Contains (other_readers u.circuit.drivers s) r × (task_at u r chunk ≡ t) = map-member (λ r. task_at u r chunk) (other_readers u.circuit.drivers s) t later in
          let driven = reader-driven u.circuit.drivers s found.0 found.1 in
          subst (IsTask u) found.2 (driven-task u chunk early found.0 driven.0 driven.1)
    ]
  where
    at-own : (d : Driver) → driver_at u.circuit.drivers s.0 ≡ d → Contains (own_tasks u d s chunk) t → IsTask u t
    at-own Input e own = absurd (not_in_nil t own)
    at-own (Driven kind pins) e own =
        elim (Contains-push_cases (cond (is_flip_flop (Driven kind pins) && ltb 0 chunk) (task_at u s (chunk - 1) ∷ []) []) (task_at u s chunk) t own) [
          | inr same ↦ subst (IsTask u) same (driven-task u chunk early s signal (ap is_driven e))
          | inl before ↦ elim (cases_Bool (is_flip_flop (Driven kind pins) && ltb 0 chunk)) [
            | inl two ↦
                let among : Contains (task_at u s (chunk - 1) ∷ []) t = subst (λ ts. Contains ts t) (cond-true (is_flip_flop (Driven kind pins) && ltb 0 chunk) (task_at u s (chunk - 1) ∷ []) [] two) before in
                elim (Contains-cases (task_at u s (chunk - 1)) [] t among) [
                  | inl same ↦ subst (IsTask u) same (driven-task u (chunk - 1) (omega (arith, early)) s signal (ap is_driven e))
                  | inr none ↦ absurd (not_in_nil t none)
                ]
            | inr one ↦ absurd (not_in_nil t (subst (λ ts. Contains ts t) (cond-false (is_flip_flop (Driven kind pins) && ltb 0 chunk) (task_at u s (chunk - 1) ∷ []) [] one) before))
          ]
        ]

-- so is what stands at a place of the list
pub task-at-place : (u : Unrolling) (s : Sig) (chunk : ℕ) → chunk < chunks_in u → s.0 < signals_in u → (i : ℕ) (r : Option Task) → r ≡ slice_get (adjacent_from u s chunk) i → IfSome r (IsTask u)
task-at-place u s chunk early signal i None e = tt
task-at-place u s chunk early signal i (Some t) e =
    adjacent-task u s chunk early signal t (i, slice_get_within (adjacent_from u s chunk) i t (sym e), get_or_from_slice_get (adjacent_from u s chunk) i t t (sym e))
