-- What can be decided: of numbers below a bound, of the members of a list, and of cells' bits.
use Rattle.std.proofs.Common.{◌≡◌, ◌⊎◌, ℕ, zero, suc, ◌<◌, ◌≤◌, Bool, true, false, List, [], ◌∷◌, arith, inl, inr, sym, subst, refl, ◌∙◌}
use Rattle.std.specs.List.{Contains, All}
use Rattle.std.proofs.lemmas.Bool.{cases_lt, cases_order, cases_Bool, true≢false, false≢true}
use Rattle.std.proofs.lemmas.List.Elements.{All-head, All-tail, All-nil, All-cons}
use Rattle.sr_model.specs.declared.cells.Cell.{Cell}
use Rattle.sr_model.specs.Order.{CellLe}
use Rattle.sr_model.specs.Netlist.{Valuation}
use Rattle.sr_model.proofs.lemmas.Members.{not_in_nil, Contains-here, Contains-there, Contains-cases}
use Rattle.sr_model.proofs.Rows.{put, put-at, put-other, cell_cases}

-- it holds, or it can't
abbrev pub Decided : Type 0 → Type 0
Decided P = P ⊎ (P → ⊥)

pub decided_both : (P Q : Type 0) → Decided P → Decided Q → Decided (P × Q)
decided_both P Q p q = elim p [ inl h ↦ elim q [ inl k ↦ inl (h, k) | inr fails ↦ inr (λ both. fails both.1) ] | inr fails ↦ inr (λ both. fails both.0) ]

pub decided_either : (P Q : Type 0) → Decided P → Decided Q → Decided (P ⊎ Q)
decided_either P Q p q =
    elim p [
      | inl h ↦ inl (inl h)
      | inr none ↦ elim q [ inl k ↦ inl (inr k) | inr not_either ↦ inr (λ some. elim some [ inl h ↦ none h | inr k ↦ not_either k ]) ]
    ]

pub decided_then : (P Q : Type 0) → Decided P → Decided Q → Decided (P → Q)
decided_then P Q p q =
    elim q [ inl k ↦ inl (λ h. k) | inr fails ↦ elim p [ inl h ↦ inr (λ f. fails (f h)) | inr not_p ↦ inl (λ h. absurd (not_p h)) ] ]

pub decided_not : (P : Type 0) → Decided P → Decided (P → ⊥)
decided_not P p = elim p [ inl h ↦ inr (λ fails. fails h) | inr fails ↦ inl fails ]

-- the same fact in other words
pub decided_as : (P Q : Type 0) → (P → Q) → (Q → P) → Decided P → Decided Q
decided_as P Q to from p = elim p [ inl h ↦ inl (to h) | inr fails ↦ inr (λ k. fails (from k)) ]

pub decided_bit : (a b : Bool) → Decided (a ≡ b)
decided_bit true true = inl refl
decided_bit true false = inr true≢false
decided_bit false true = inr false≢true
decided_bit false false = inl refl

-- what is decided, as a test
pub test_of : (P : Type 0) → Decided P → Bool
test_of P p = elim p [ inl h ↦ true | inr none ↦ false ]

pub test_of-true : (P : Type 0) (p : Decided P) → P → test_of P p ≡ true
unfolding test_of
test_of-true P (inl h) is = refl
test_of-true P (inr fails) is = absurd (fails is)

pub test_of-holds : (P : Type 0) (p : Decided P) → test_of P p ≡ true → P
unfolding test_of
test_of-holds P (inl h) e = h
test_of-holds P (inr fails) e = absurd (false≢true e)

module _ (P : ℕ → Type 0) (decide : (k : ℕ) → Decided (P k)) where
  -- no number below n, or the least of all
  pub least_below : (n : ℕ) → ((k : ℕ) → k < n → P k → ⊥) ⊎ ((m : ℕ) × (m < n) × P m × ((k : ℕ) → P k → m ≤ k))
  least_below zero = inl (λ k below h. let wrong : ⊥ = omega (arith, below) in wrong)
  least_below (suc n) =
      elim (least_below n) [
        | inr found ↦ inr (found.0, omega (arith, found.1), found.2, found.3)
        | inl none ↦ elim (decide n) [
          | inl here ↦ inr (n, omega arith, here, λ k h. elim (cases_lt k n) [ inl below ↦ absurd (none k below h) | inr above ↦ above ])
          | inr not_here ↦ inl (λ k below h. elim (cases_lt k n) [
            | inl below ↦ none k below h
            | inr above ↦ let e : k ≡ n = omega (arith, below) in not_here (subst P e h)
          ])
        ]
      ]

  pub decided_below : (n : ℕ) → Decided ((k : ℕ) × (k < n) × P k)
  decided_below n = elim (least_below n) [ inl none ↦ inr (λ x. none x.0 x.1 x.2) | inr found ↦ inl (found.0, found.1, found.2) ]

  pub least_number : (n : ℕ) → P n → (m : ℕ) × P m × ((k : ℕ) → P k → m ≤ k)
  least_number n at = elim (least_below (suc n)) [ inl none ↦ absurd (none n (omega arith) at) | inr found ↦ (found.0, found.2, found.3) ]

module _ (X : Type 0) (P : X → Type 0) (decide : (x : X) → Decided (P x)) where
  pub decided_some : (xs : List X) → Decided ((x : X) × Contains xs x × P x)
  decided_some [] = inr (λ x. not_in_nil x.0 x.1)
  decided_some (x ∷ xs) =
      elim (decide x) [
        | inl here ↦ inl (x, Contains-here x xs, here)
        | inr not_here ↦ elim (decided_some xs) [
          | inl y ↦ inl (y.0, Contains-there x xs y.0 y.1, y.2)
          | inr fails ↦ inr (λ y. elim (Contains-cases x xs y.0 y.1) [ inl e ↦ not_here (subst P (sym e) y.2) | inr later ↦ fails (y.0, later, y.2) ])
        ]
      ]

  pub decided_all : (xs : List X) → Decided (All P xs)
  decided_all [] = inl (All-nil P)
  decided_all (x ∷ xs) =
      elim (decide x) [
        | inr fails ↦ inr (λ all. fails (All-head P x xs all))
        | inl here ↦ elim (decided_all xs) [
          | inl rest ↦ inl (All-cons P x xs here rest)
          | inr fails ↦ inr (λ all. fails (All-tail P x xs all))
        ]
      ]

CellLe-itself : (a : Cell) → CellLe a a
CellLe-itself a = inr (refl, omega arith)

CellLe-cases : (a b : Cell) → CellLe a b ⊎ CellLe b a
CellLe-cases a b =
    elim (cases_order a.cycle b.cycle) [
      | inl same ↦ elim (cases_lt a.sig.0 b.sig.0) [ inl below ↦ inl (inr (same, omega arith)) | inr above ↦ inr (inr (sym same, above)) ]
      | inr apart ↦ elim apart [ inl before ↦ inl (inl before) | inr after ↦ inr (inl after) ]
    ]

CellLe-chain : (a b c : Cell) → CellLe a b → CellLe b c → CellLe a c
CellLe-chain a b c (inl p) (inl q) = inl (omega arith)
CellLe-chain a b c (inl p) (inr q) = inl (omega (arith, q.0))
CellLe-chain a b c (inr p) (inl q) = inl (omega (arith, p.0))
CellLe-chain a b c (inr p) (inr q) = inr (p.0 ∙ q.0, omega (arith, p.1, q.1))

module _ (P : Cell → Type 0) (decide : (c : Cell) → Decided (P c)) where
  -- no cell of the list, or the least of these
  pub least_cell : (cells : List Cell) → ((c : Cell) → Contains cells c → P c → ⊥) ⊎ ((c : Cell) × P c × ((d : Cell) → Contains cells d → P d → CellLe c d))
  least_cell [] = inl (λ c h at. not_in_nil c h)
  least_cell (x ∷ cells) =
      elim (decide x) [
        | inr not_here ↦ elim (least_cell cells) [
          | inl none ↦ inl (λ c h at. elim (Contains-cases x cells c h) [ inl e ↦ not_here (subst P (sym e) at) | inr later ↦ none c later at ])
          | inr least ↦ inr (least.0, least.1, λ d h at. elim (Contains-cases x cells d h) [ inl e ↦ absurd (not_here (subst P (sym e) at)) | inr later ↦ least.2 d later at ])
        ]
        | inl here ↦ elim (least_cell cells) [
          | inl none ↦ inr (x, here, λ d h at. elim (Contains-cases x cells d h) [ inl e ↦ subst (CellLe x) e (CellLe-itself x) | inr later ↦ absurd (none d later at) ])
          | inr least ↦ elim (CellLe-cases x least.0) [
            | inl below ↦ inr (
              x,
              here,
              λ d h at.
                  elim (Contains-cases x cells d h) [ inl e ↦ subst (CellLe x) e (CellLe-itself x) | inr later ↦ CellLe-chain x least.0 d below (least.2 d later at) ],
            )
            | inr above ↦ inr (least.0, least.1, λ d h at. elim (Contains-cases x cells d h) [ inl e ↦ subst (CellLe least.0) e above | inr later ↦ least.2 d later at ])
          ]
        ]
      ]

put-same : (cells : List Cell) (c : Cell) (bit : Bool) (v w : Valuation) → ((d : Cell) → Contains cells d → v d ≡ w d) → (d : Cell) → Contains (c ∷ cells) d → put v c bit d ≡ put w c bit d
put-same cells c bit v w same d h =
    elim (cell_cases d c) [
      | inl e ↦ subst (λ x. put v c bit x ≡ put w c bit x) (sym e) (put-at v c bit ∙ sym (put-at w c bit))
      | inr apart ↦ elim (Contains-cases c cells d h) [
        | inl e ↦ subst (λ x. put v c bit x ≡ put w c bit x) e (put-at v c bit ∙ sym (put-at w c bit))
        | inr later ↦ put-other v c bit d apart ∙ same d later ∙ sym (put-other w c bit d apart)
      ]
    ]

put-itself : (v : Valuation) (c : Cell) (bit : Bool) → v c ≡ bit → (d : Cell) → v d ≡ put v c bit d
put-itself v c bit e d =
    elim (cell_cases d c) [
      | inl same ↦ subst (λ x. v x ≡ put v c bit x) (sym same) (e ∙ sym (put-at v c bit))
      | inr apart ↦ sym (put-other v c bit d apart)
    ]

-- some valuation, by what it says of the cells alone
pub decided_valuation : (cells : List Cell) (P : Valuation → Type 0) → ((v : Valuation) → Decided (P v))
    → ((v w : Valuation) → ((c : Cell) → Contains cells c → v c ≡ w c) → P v → P w) → Decided ((v : Valuation) × P v)
decided_valuation [] P decide local =
    elim (decide (λ c. false)) [ inl h ↦ inl ((λ c. false), h) | inr fails ↦ inr (λ x. fails (local x.0 (λ c. false) (λ c h. absurd (not_in_nil c h)) x.1)) ]
decided_valuation (c ∷ cells) P decide local =
    let with_bit : (bit : Bool) → Decided ((v : Valuation) × P (put v c bit)) = λ bit.
    decided_valuation cells (λ v. P (put v c bit)) (λ v. decide (put v c bit)) (λ v w same. local (put v c bit) (put w c bit) (put-same cells c bit v w same)) in
    let as_it_is : (v : Valuation) (bit : Bool) → v c ≡ bit → P v → P (put v c bit) = λ v bit e. local v (put v c bit) (λ d h. put-itself v c bit e d) in
    elim (with_bit false) [
      | inl zero_there ↦ inl (put zero_there.0 c false, zero_there.1)
      | inr not_zero ↦ elim (with_bit true) [
        | inl one_there ↦ inl (put one_there.0 c true, one_there.1)
        | inr not_one ↦ inr (λ x. elim (cases_Bool (x.0 c)) [
          | inl is_one ↦ not_one (x.0, as_it_is x.0 true is_one x.1)
          | inr is_zero ↦ not_zero (x.0, as_it_is x.0 false is_zero x.1)
        ])
      ]
    ]
