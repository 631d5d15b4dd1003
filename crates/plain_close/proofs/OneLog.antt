-- A base has one log, and what it says of the closure.
use Rattle.std.proofs.Common.{◌≡◌, ◌⊎◌, ◌↔◌, ℕ, ◌<◌, suc, Bool, List, [], ◌∷◌, ◌++◌, Option, Some, None, arith, inl, inr, refl, sym, ap, subst, ◌∙◌}
use Rattle.std.specs.List.{AllPairs, Any, Contains}
use Rattle.std.proofs.lemmas.Bool.{cases_lt}
use Rattle.std.proofs.lemmas.List.Elements.{All-contains, Contains-append_cases, Contains-append_left, Contains-append_right}
use Rattle.sr_model.specs.declared.cells.Cell.{Cell}
use Rattle.sr_model.specs.declared.cells.Lit.{Lit}
use Rattle.sr_model.specs.declared.cells.Place.{Place}
use Rattle.sr_model.specs.Netlist.{Unrolled}
use Rattle.sr_model.specs.Closure.{Closure, ForcesAt, IsClash, IsLeastClash, LitSet, level, passing}
use Rattle.sr_model.specs.Order.{CellLe, PlaceLe}
use Rattle.sr_model.proofs.lemmas.Decisions.{decided_level}
use Rattle.sr_model.proofs.lemmas.Laws.{stable_level}
use Rattle.sr_model.proofs.lemmas.Members.{Contains-cases, Contains-here, Contains-there, not_in_nil}
use Rattle.plain_close.specs.declared.log.Step.{Step}
use Rattle.plain_close.specs.Log.{AreNextSteps, HasNoClash, IsLogFrom, LitLt, clashes, ends, goes_on}
use Rattle.plain_close.specs.LogLaws.{ClashIsFirst, HasOneLog, LogIsWhole}
use Rattle.plain_close.proofs.LeastSteps.{lit-apart, lit-onward}

-- ---- ascending steps with the same members

abbrev Ascend : List Step → Type 0
Ascend steps = AllPairs (λ a b. LitLt a.lit b.lit) steps

ascend-head : (x : Step) (xs : List Step) → Ascend (x ∷ xs) → (s : Step) → Contains xs s → LitLt x.lit s.lit
ascend-head x xs up s (k, within, at) = subst (λ (t : Step). LitLt x.lit t.lit) at (up 0 (suc k) s (omega arith) (omega (arith, within)))

ascend-tail : (x : Step) (xs : List Step) → Ascend (x ∷ xs) → Ascend xs
ascend-tail x xs up k j d less within = up (suc k) (suc j) d (omega (arith, less)) (omega (arith, within))

same_head : (x y : Step) (xs ys : List Step) → Ascend (x ∷ xs) → Ascend (y ∷ ys) → Contains (y ∷ ys) x → Contains (x ∷ xs) y → x ≡ y
same_head x y xs ys up_x up_y to back =
    elim (Contains-cases y ys x to) [
      | inl same ↦ sym same
      | inr later ↦ elim (Contains-cases x xs y back) [
        | inl same ↦ same
        | inr after ↦ absurd (lit-apart x.lit x.lit refl (lit-onward x.lit y.lit x.lit (ascend-head x xs up_x y after) (ascend-head y ys up_y x later)))
      ]
    ]

-- a member of the one list's tail is one of the other's
in_tail : (x y : Step) (xs ys : List Step) → Ascend (x ∷ xs) → x ≡ y → ((s : Step) → Contains (x ∷ xs) s → Contains (y ∷ ys) s) → (s : Step) → Contains xs s → Contains ys s
in_tail x y xs ys up same to s h =
    elim (Contains-cases y ys s (to s (Contains-there x xs s h))) [
      | inl is ↦ absurd (lit-apart x.lit s.lit (ap (λ (t : Step). t.lit) (same ∙ is)) (ascend-head x xs up s h))
      | inr later ↦ later
    ]

same_ascending : (xs ys : List Step) → Ascend xs → Ascend ys → ((s : Step) → Contains xs s → Contains ys s) → ((s : Step) → Contains ys s → Contains xs s) → xs ≡ ys
same_ascending [] [] up_x up_y to back = refl
same_ascending [] (y ∷ ys) up_x up_y to back = absurd (not_in_nil y (back y (Contains-here y ys)))
same_ascending (x ∷ xs) [] up_x up_y to back = absurd (not_in_nil x (to x (Contains-here x xs)))
same_ascending (x ∷ xs) (y ∷ ys) up_x up_y to back =
    let same : x ≡ y = same_head x y xs ys up_x up_y (to x (Contains-here x xs)) (back y (Contains-here y ys)) in
    let rest : xs ≡ ys = same_ascending xs ys (ascend-tail x xs up_x) (ascend-tail y ys up_y) (in_tail x y xs ys up_x same to) (in_tail y x ys xs up_y (sym same) back) in
    ap (λ s. s ∷ xs) same ∙ ap (λ ss. y ∷ ss) rest

-- ---- the steps of a level

same_place : (a b : Place) → PlaceLe a b → PlaceLe b a → a ≡ b
same_place a b (inl less) (inl more) = absurd (omega (arith, less, more))
same_place a b (inl less) (inr (same, _)) = absurd (omega (arith, less, same))
same_place a b (inr (same, _)) (inl more) = absurd (omega (arith, same, more))
same_place a b (inr (same, low)) (inr (_, high)) =
    let targets : a.target.0 ≡ b.target.0 = omega (arith, low, high) in
    ap (λ n. record { cycle = n; target = a.target }) same ∙ ap (λ n. record { cycle = b.cycle; target = record { 0 = n } }) targets

module _ (u : Unrolled) (known : LitSet) (xs ys : List Step) (first : AreNextSteps u known xs) (second : AreNextSteps u known ys) where
  member : (s : Step) → Contains xs s → Contains ys s
  member s (k, within, at) =
      let (j, t, inside, there, lits) = (second.exact s.lit).1 ((first.exact s.lit).0 (k, s, within, at, refl)) in
      let h : Contains xs s = (k, within, at) in
      let g : Contains ys t = (j, inside, there) in
      let forced : ForcesAt u known s.place s.lit = All-contains (λ (x : Step). ForcesAt u known x.place x.lit) xs s first.forced h in
      let other : ForcesAt u known t.place t.lit = All-contains (λ (x : Step). ForcesAt u known x.place x.lit) ys t second.forced g in
      let below : PlaceLe s.place t.place = All-contains (λ (x : Step). (q : Place) → ForcesAt u known q x.lit → PlaceLe x.place q) xs s first.least h t.place (subst (ForcesAt u known t.place) lits other) in
      let above : PlaceLe t.place s.place = All-contains (λ (x : Step). (q : Place) → ForcesAt u known q x.lit → PlaceLe x.place q) ys t second.least g s.place (subst (ForcesAt u known s.place) (sym lits) forced) in
      let same : t ≡ s = ap (λ l. record { lit = l; place = t.place }) lits ∙ ap (λ p. record { lit = s.lit; place = p }) (same_place t.place s.place above below) in
      subst (Contains ys) same g

same_next : (u : Unrolled) (known : LitSet) (xs ys : List Step) → AreNextSteps u known xs → AreNextSteps u known ys → xs ≡ ys
same_next u known xs ys first second = same_ascending xs ys first.ordered second.ordered (member u known xs ys first second) (member u known ys xs second first)

same_cell : (a b : Cell) → CellLe a b → CellLe b a → a ≡ b
same_cell a b (inl less) (inl more) = absurd (omega (arith, less, more))
same_cell a b (inl less) (inr (same, _)) = absurd (omega (arith, less, same))
same_cell a b (inr (same, _)) (inl more) = absurd (omega (arith, same, more))
same_cell a b (inr (same, low)) (inr (_, high)) =
    let signals : a.sig.0 ≡ b.sig.0 = omega (arith, low, high) in
    ap (λ n. record { cycle = n; sig = a.sig }) same ∙ ap (λ n. record { cycle = b.cycle; sig = record { 0 = n } }) signals

-- ---- one log

module _ (u : Unrolled) (base : LitSet) where
  one_from : (i : ℕ) (steps others : List Step) (clash other : Option Cell) → IsLogFrom u base i steps clash → IsLogFrom u base i others other → (steps ≡ others) × (clash ≡ other)
  one_from _ _ _ _ _ (clashes i cell is) (clashes _ next again) = (refl, ap Some (same_cell cell next (is.least next again.both) (again.least cell is.both)))
  one_from _ _ _ _ _ (clashes i cell is) (ends _ none next) = absurd (none cell is.both)
  one_from _ _ _ _ _ (clashes i cell is) (goes_on _ now later end none next some rest) = absurd (none cell is.both)
  one_from _ _ _ _ _ (ends i none next) (clashes _ cell is) = absurd (none cell is.both)
  one_from _ _ _ _ _ (ends i none next) (ends _ _ _) = (refl, refl)
  one_from _ _ _ _ _ (ends i none next) (goes_on _ now later end _ again some rest) = absurd (some (same_next u (level u base i) now [] again next))
  one_from _ _ _ _ _ (goes_on i now later end none next some rest) (clashes _ cell is) = absurd (none cell is.both)
  one_from _ _ _ _ _ (goes_on i now later end none next some rest) (ends _ _ again) = absurd (some (same_next u (level u base i) now [] next again))
  one_from _ _ _ _ _ (goes_on i now later end none next some rest) (goes_on _ now' later' end' _ next' _ rest') =
      let same : now ≡ now' = same_next u (level u base i) now now' next next' in
      let on = one_from (suc i) later later' end end' rest rest' in
      (ap (λ xs. xs ++ later) same ∙ ap (λ xs. now' ++ xs) on.0, on.1)

  -- the first level with a clash is where it ends
  first_from : (i : ℕ) (steps : List Step) (clash : Option Cell) → IsLogFrom u base i steps clash → (cell : Cell) → clash ≡ Some cell → ((j : ℕ) → j < i → HasNoClash (level u base j)) → (k : ℕ) × IsClash u base cell k
  first_from _ _ _ (clashes i own is) cell e below = (
    i,
    record {
      first_level = λ j d both. elim (cases_lt j i) [ inl less ↦ absurd (below j less d both) | inr more ↦ more ];
      least_cell = let same : own ≡ cell = cc in subst (IsLeastClash (level u base i)) same is;
    },
  )
  first_from _ _ _ (ends i none next) cell e below = absurd cc
  first_from _ _ _ (goes_on i now later end none next some rest) cell e below =
      first_from (suc i) later end rest cell e (λ j less. elim (cases_lt j i) [
        | inl earlier ↦ below j earlier
        | inr more ↦ let same : i ≡ j = omega (arith, less, more) in subst (λ n. HasNoClash (level u base n)) same none
      ])

pub one_log : HasOneLog
one_log u base steps others clash other = one_from u (passing base) 0 steps others clash other

pub clash_is_first : ClashIsFirst
clash_is_first u base steps cell is = first_from u (passing base) 0 steps (Some cell) is cell refl (λ j less. absurd (omega (arith, less)))

-- ---- all that follows

abbrev HasLit : List Step → Lit → Type 0
HasLit steps l = Any (λ step. step.lit ≡ l) steps

none_listed : (l : Lit) → HasLit [] l → ⊥
none_listed l (k, step, within, at, is) = omega (arith, within)

listed_first : (xs ys : List Step) (l : Lit) → HasLit xs l → HasLit (xs ++ ys) l
listed_first xs ys l (k, step, within, at, is) = let h = Contains-append_left xs ys step (k, within, at) in (h.0, step, h.1, h.2, is)

listed_second : (xs ys : List Step) (l : Lit) → HasLit ys l → HasLit (xs ++ ys) l
listed_second xs ys l (k, step, within, at, is) = let h = Contains-append_right xs ys step (k, within, at) in (h.0, step, h.1, h.2, is)

listed_either : (xs ys : List Step) (l : Lit) → HasLit (xs ++ ys) l → HasLit xs l ⊎ HasLit ys l
listed_either xs ys l (k, step, within, at, is) =
    elim (Contains-append_cases xs ys step (k, within, at)) [ inl h ↦ inl (h.0, step, h.1, h.2, is) | inr h ↦ inr (h.0, step, h.1, h.2, is) ]

module _ (u : Unrolled) (base : Lit → Bool) where
  abbrev At : ℕ → LitSet
  At i = level u (passing base) i

  -- what is forced is known or among the next steps
  known_or_listed : (i : ℕ) (steps : List Step) (l : Lit) → AreNextSteps u (At i) steps → At (suc i) l → At i l ⊎ HasLit steps l
  known_or_listed i steps l next (inl known) = inl known
  known_or_listed i steps l next (inr forced) = elim (decided_level u base i l) [ inl known ↦ inl known | inr unknown ↦ inr ((next.exact l).1 (forced, unknown)) ]

  whole_from : (i : ℕ) (steps : List Step) (clash : Option Cell) → IsLogFrom u (passing base) i steps clash → clash ≡ None → (l : Lit) → Closure u (passing base) l ↔ (At i l ⊎ HasLit steps l)
  whole_from _ _ _ (clashes i cell is) e l = absurd cc
  whole_from _ _ _ (ends i none next) e l =
      let stable = stable_level u (passing base) i (λ x at. elim (known_or_listed i [] x next at) [ inl known ↦ known | inr listed ↦ absurd (none_listed x listed) ]) in (
        λ follows. inl (stable.1 l follows),
        λ either. elim either [ inl known ↦ stable.0 l known | inr listed ↦ absurd (none_listed l listed) ],
      )
  whole_from _ _ _ (goes_on i now later end none next some rest) e l =
      let on = whole_from (suc i) later end rest e l in (
        λ follows. elim (on.0 follows) [
          | inl at ↦ elim (known_or_listed i now l next at) [ inl known ↦ inl known | inr listed ↦ inr (listed_first now later l listed) ]
          | inr listed ↦ inr (listed_second now later l listed)
        ],
        λ either. on.1 (elim either [
          | inl known ↦ inl (inl known)
          | inr listed ↦ elim (listed_either now later l listed) [ inl first ↦ inl (inr ((next.exact l).0 first).0) | inr second ↦ inr second ]
        ]),
      )

pub log_is_whole : LogIsWhole
log_is_whole u base steps l is = whole_from u base 0 steps None is refl l
