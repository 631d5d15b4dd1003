-- The facts of a log are forced one after another, and its signals are there.
use Rattle.std.proofs.Common.{◌≡◌, ◌⊎◌, ℕ, suc, ◌<◌, Bool, true, false, not, List, [], ◌∷◌, ◌++◌, map, get_or, Option, refl, sym, ap, subst, ◌∙◌, inl, inr, append_assoc}
use Rattle.std.specs.List.{All, Any, Contains}
use Rattle.std.proofs.lemmas.Bool.{cases_Bool, true≢false}
use Rattle.std.proofs.lemmas.List.{append-nil, get_or-map, length-map, map-append}
use Rattle.std.proofs.lemmas.List.Elements.{All-append, All-head, All-nil, All-tail, Contains-append_cases, Contains-append_left, Contains-append_right}
use Rattle.sr_model.specs.declared.cells.Cell.{Cell}
use Rattle.sr_model.specs.declared.cells.Lit.{Lit}
use Rattle.sr_model.specs.Netlist.{Unrolled}
use Rattle.sr_model.specs.Closure.{ForcesAt, IsWithin, LitSet, SameLits, level, lit, passing}
use Rattle.sr_model.proofs.lemmas.AndRules.{bit_cases}
use Rattle.sr_model.proofs.lemmas.Cells.{cell_cases, cell_eq, cell_eq-itself}
use Rattle.sr_model.proofs.lemmas.Members.{Contains-cases, Contains-here, Contains-there, map-member, not_in_nil}
use Rattle.plain_close.specs.declared.log.Step.{Step}
use Rattle.plain_close.specs.Log.{AreNextSteps, IsLogFrom, clashes, ends, goes_on}
use Rattle.certificates.specs.declared.claim.Fact.{Fact}
use Rattle.certificates.specs.Logs.{fact_of, facts_of}
use Rattle.certificates.specs.Validity.{AreForced, Holds, last_claim, lits_of, with_facts}
use Rattle.certificates.proofs.Holding.{forces-more, in-more}

-- ---- lists of literals

lit-or-not : (a b : Lit) → (a ≡ b) ⊎ (a ≡ b → ⊥)
lit-or-not a b =
    elim (cell_cases a.cell b.cell) [
      | inr apart ↦ inr (λ e. true≢false (sym (cell_eq-itself a.cell) ∙ ap (λ (l : Lit). cell_eq a.cell l.cell) e ∙ apart))
      | inl same ↦ elim (bit_cases a.bit b.bit) [
        | inl bits ↦ inl (ap (λ c. lit c a.bit) same ∙ ap (lit b.cell) bits)
        | inr other ↦ inr (λ e. differs b.bit (sym (ap (λ (l : Lit). l.bit) e) ∙ other))
      ]
    ]
  where
    differs : (x : Bool) → x ≡ not x → ⊥
    differs true e = true≢false e
    differs false e = true≢false (sym e)

listed-or-not : (ls : List Lit) (l : Lit) → Contains ls l ⊎ (Contains ls l → ⊥)
listed-or-not [] l = inr (not_in_nil l)
listed-or-not (first ∷ ls) l =
    elim (lit-or-not first l) [
      | inl same ↦ inl (subst (Contains (first ∷ ls)) same (Contains-here first ls))
      | inr other ↦ elim (listed-or-not ls l) [
        | inl later ↦ inl (Contains-there first ls l later)
        | inr none ↦ inr (λ h. elim (Contains-cases first ls l h) [ inl same ↦ other same | inr later ↦ none later ])
      ]
    ]

pub known-or-not : (test : Lit → Bool) (facts : List Fact) (l : Lit) → with_facts (passing test) facts l ⊎ (with_facts (passing test) facts l → ⊥)
known-or-not test facts l =
    elim (cases_Bool (test l)) [
      | inl passes ↦ inl (inl passes)
      | inr fails ↦ elim (listed-or-not (lits_of facts) l) [
        | inl stated ↦ inl (inr stated)
        | inr none ↦ inr (λ h. elim h [ inl passes ↦ true≢false (sym passes ∙ fails) | inr stated ↦ none stated ])
      ]
    ]

lits-append : (xs ys : List Fact) → lits_of (xs ++ ys) ≡ lits_of xs ++ lits_of ys
lits-append xs ys = map-append (λ (f : Fact). f.lit) xs ys

in-first : (base : LitSet) (xs ys : List Fact) (l : Lit) → with_facts base xs l → with_facts base (xs ++ ys) l
in-first base xs ys l (inl known) = inl known
in-first base xs ys l (inr stated) = inr (subst (λ ls. Contains ls l) (sym (lits-append xs ys)) (Contains-append_left (lits_of xs) (lits_of ys) l stated))

in-both : (base : LitSet) (xs ys : List Fact) (l : Lit) → with_facts base (xs ++ ys) l → with_facts base xs l ⊎ Contains (lits_of ys) l
in-both base xs ys l (inl known) = inl (inl known)
in-both base xs ys l (inr stated) =
    elim (Contains-append_cases (lits_of xs) (lits_of ys) l (subst (λ ls. Contains ls l) (lits-append xs ys) stated)) [ inl first ↦ inl (inr first) | inr second ↦ inr second ]

-- ---- the literals of steps

lit_of : Step → Lit
lit_of step = step.lit

lits-of-steps : (steps : List Step) → lits_of (facts_of steps) ≡ map (λ (s : Step). s.lit) steps
lits-of-steps [] = refl
lits-of-steps (step ∷ steps) = ap (λ (ls : List Lit). step.lit ∷ ls) (lits-of-steps steps)

stated-by : (steps : List Step) (l : Lit) → Any (λ (s : Step). s.lit ≡ l) steps → Contains (lits_of (facts_of steps)) l
stated-by steps l (k, s, within, at, is) =
    subst (λ ls. Contains ls l) (sym (lits-of-steps steps))
    (k, subst (λ n. k < n) (sym (length-map steps (λ (x : Step). x.lit))) within, get_or-map (λ (x : Step). x.lit) steps k s l within ∙ ap (λ (x : Step). x.lit) at ∙ is)

by-step : (steps : List Step) (l : Lit) → Contains (lits_of (facts_of steps)) l → Any (λ (s : Step). s.lit ≡ l) steps
by-step steps l h =
    let found = map-member (λ (x : Step). x.lit) steps l (subst (λ ls. Contains ls l) (lits-of-steps steps) h) in
    (found.1.0, found.0, found.1.1, found.1.2, found.2)

-- ---- one level, and all

forced-append : (u : Unrolled) (base : LitSet) (earlier xs ys : List Fact) → AreForced u base earlier xs → AreForced u base (earlier ++ xs) ys → AreForced u base earlier (xs ++ ys)
forced-append u base earlier [] ys first second = subst (λ (fs : List Fact). AreForced u base fs ys) (append-nil earlier) second
forced-append u base earlier (x ∷ xs) ys first second =
    (first.0, forced-append u base (earlier ++ x ∷ []) xs ys first.1 (subst (λ (fs : List Fact). AreForced u base fs ys) (sym (append_assoc earlier (x ∷ []) xs)) second))

level-forced : (u : Unrolled) (base known : LitSet) (steps : List Step) (earlier : List Fact) → IsWithin known (with_facts base earlier) → All (λ (s : Step). ForcesAt u known s.place s.lit) steps
    → AreForced u base earlier (facts_of steps)
level-forced u base known [] earlier within all = tt
level-forced u base known (step ∷ steps) earlier within all = (
  forces-more u known (with_facts base earlier) step.place step.lit within (All-head (λ (s : Step). ForcesAt u known s.place s.lit) step steps all),
  level-forced u base known steps (earlier ++ fact_of step ∷ []) (λ l h. in-more base earlier (fact_of step) l (inl (within l h))) (All-tail (λ (s : Step). ForcesAt u known s.place s.lit) step steps all),
)

module _ (u : Unrolled) (test : Lit → Bool) where
  abbrev base : LitSet
  base = passing test

  next-level : (i : ℕ) (steps : List Step) (earlier : List Fact) → SameLits (level u base i) (with_facts base earlier) → AreNextSteps u (level u base i) steps
      → SameLits (level u base (suc i)) (with_facts base (earlier ++ facts_of steps))
  next-level i steps earlier same next = (
    λ l h. elim h [
      | inl before ↦ in-first base earlier (facts_of steps) l (same.0 l before)
      | inr forced ↦ elim (known-or-not test earlier l) [
        | inl known ↦ in-first base earlier (facts_of steps) l known
        | inr new ↦
            inr (subst (λ ls. Contains ls l) (sym (lits-append earlier (facts_of steps)))
            (Contains-append_right (lits_of earlier) (lits_of (facts_of steps)) l (stated-by steps l ((next.exact l).1 (forced, λ known. new (same.0 l known))))))
      ]
    ],
    λ l h. elim (in-both base earlier (facts_of steps) l h) [
      | inl before ↦ inl (same.1 l before)
      | inr stated ↦ inr ((next.exact l).0 (by-step steps l stated)).0
    ],
  )

  pub log-holds : (i : ℕ) (steps : List Step) (clash : Option Cell) (earlier : List Fact) → IsLogFrom u base i steps clash → SameLits (level u base i) (with_facts base earlier)
      → AreForced u base earlier (facts_of steps) × Holds u (with_facts base (earlier ++ facts_of steps)) (last_claim clash)
  log-holds _ _ _ earlier (clashes i cell least) same =
      let back : (l : Lit) → level u base i l → with_facts base (earlier ++ []) l = λ l h. subst (λ (fs : List Fact). with_facts base fs l) (sym (append-nil earlier)) (same.0 l h) in
      (tt, (back _ least.both.0, back _ least.both.1))
  log-holds _ _ _ earlier (ends i none next) same = (tt, tt)
  log-holds _ _ _ earlier (goes_on i now later clash none next some rest) same =
      let all : facts_of (now ++ later) ≡ facts_of now ++ facts_of later = map-append fact_of now later in
      let on = log-holds (suc i) later clash (earlier ++ facts_of now) rest (next-level i now earlier same next) in (
        subst (AreForced u base earlier) (sym all)
            (forced-append u base earlier (facts_of now) (facts_of later) (level-forced u base (level u base i) now earlier same.0 next.forced) on.0),
        subst (λ (fs : List Fact). Holds u (with_facts base fs) (last_claim clash)) (append_assoc earlier (facts_of now) (facts_of later) ∙ ap (λ (fs : List Fact). earlier ++ fs) (sym all)) on.1,
      )

  -- what holds of each step that is forced holds of each step of a log
  pub all-steps : (P : Step → Type 0) → ((i : ℕ) (s : Step) → ForcesAt u (level u base i) s.place s.lit → P s) → (i : ℕ) (steps : List Step) (clash : Option Cell) → IsLogFrom u base i steps clash → All P steps
  all-steps P each _ _ _ (clashes i cell least) = All-nil P
  all-steps P each _ _ _ (ends i none next) = All-nil P
  all-steps P each _ _ _ (goes_on i now later clash none next some rest) =
      All-append P now later (λ k s lt. each i (get_or now k s) (next.forced k s lt)) (all-steps P each (suc i) later clash rest)

  pub from-base : SameLits (level u base 0) (with_facts base [])
  from-base = (λ l h. inl h, λ l h. elim h [ inl known ↦ known | inr stated ↦ absurd (not_in_nil l stated) ])
