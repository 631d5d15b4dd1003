-- Whether an odd number of cells has 1, a repeated cell counting each time.
use Rattle.std.proofs.Common.{◌≡◌, ℕ, ◌+◌, ◌%◌, Bool, true, false, not, cond, List, [], ◌∷◌, map, eqb, arith, inl, inr, sym, subst, refl, ap, ◌∙◌}
use Rattle.std.specs.List.{count_by}
use Rattle.std.proofs.lemmas.Bool.{cases_Bool, eqb-true, eqb-false, eq-eqb, ne_eqb, true≢false}
use Rattle.std.proofs.lemmas.List.Sums.{sum_by-cons}
use Rattle.sr_model.specs.declared.cells.Cell.{Cell}
use Rattle.sr_model.specs.Gate.{odd_one}
use Rattle.sr_model.specs.Netlist.{cell_eq, Valuation}
use Rattle.sr_model.specs.XorLike.{plus, parity, is_odd}
use Rattle.sr_model.proofs.Rows.{cell_eq-true, cell_cases, cell_eq-itself, cell_eq-swap, put, put-at, put-other}

odd_more : (n : ℕ) → eqb ((1 + n) % 2) 1 ≡ not (eqb (n % 2) 1)
odd_more n =
    elim (cases_Bool (eqb (n % 2) 1)) [
      | inl odd ↦
          let e : n % 2 ≡ 1 = eqb-true (n % 2) 1 odd in
          ne_eqb ((1 + n) % 2) 1 (λ h. omega arith) ∙ ap not (sym odd)
      | inr even ↦
          let e : (n % 2 ≡ 1 → ⊥) = eqb-false (n % 2) 1 even in
          eq-eqb ((1 + n) % 2) 1 (omega arith) ∙ ap not (sym even)
    ]

-- a number of 1s, one bit more
pub odd_step : (b : Bool) (n m : ℕ) → m ≡ cond b 1 0 + n → eqb (m % 2) 1 ≡ plus b (eqb (n % 2) 1)
odd_step true n m e = ap (λ k. eqb (k % 2) 1) e ∙ odd_more n
odd_step false n m e = let same : m ≡ n = omega arith in ap (λ k. eqb (k % 2) 1) same

pub odd_one-cons : (b : Bool) (bits : List Bool) → odd_one (b ∷ bits) ≡ plus b (odd_one bits)
odd_one-cons b bits = odd_step b (count_by (λ b. b) bits) (count_by (λ b. b) (b ∷ bits)) (sum_by-cons (λ b. cond b 1 0) b bits)

pub odd_one-is : (v : Valuation) (cs : List Cell) → odd_one (map v cs) ≡ parity v cs
odd_one-is v [] = refl
odd_one-is v (c ∷ cs) = odd_one-cons (v c) (map v cs) ∙ ap (plus (v c)) (odd_one-is v cs)

pub plus_swap : (a b r : Bool) → plus a (plus b r) ≡ plus b (plus a r)
plus_swap true true r = refl
plus_swap true false r = refl
plus_swap false true r = refl
plus_swap false false r = refl

plus_flip : (a o r : Bool) → plus (not a) (plus o r) ≡ plus (not o) (plus a r)
plus_flip true true true = refl
plus_flip true true false = refl
plus_flip true false true = refl
plus_flip true false false = refl
plus_flip false true true = refl
plus_flip false true false = refl
plus_flip false false true = refl
plus_flip false false false = refl

plus_four : (a b c d : Bool) → plus (plus a b) (plus c d) ≡ plus (plus a c) (plus b d)
plus_four true true true true = refl
plus_four true true true false = refl
plus_four true true false true = refl
plus_four true true false false = refl
plus_four true false true true = refl
plus_four true false true false = refl
plus_four true false false true = refl
plus_four true false false false = refl
plus_four false true true true = refl
plus_four false true true false = refl
plus_four false true false true = refl
plus_four false true false false = refl
plus_four false false true true = refl
plus_four false false true false = refl
plus_four false false false true = refl
plus_four false false false false = refl

pub plus_same : (a b : Bool) → plus a b ≡ false → a ≡ b
plus_same true true e = refl
plus_same true false e = cc
plus_same false true e = cc
plus_same false false e = refl

pub plus_itself : (a : Bool) → plus a a ≡ false
plus_itself true = refl
plus_itself false = refl

pub plus_move : (a b r : Bool) → a ≡ plus b r → plus a r ≡ b
plus_move a true true e = ap (λ x. plus x true) e
plus_move a true false e = ap (λ x. plus x false) e
plus_move a false true e = ap (λ x. plus x true) e
plus_move a false false e = ap (λ x. plus x false) e

-- to turn one cell's bit turns the parity where the cell stands an odd number of times
pub parity-turn : (v : Valuation) (c : Cell) (cs : List Cell) → parity (put v c (not (v c))) cs ≡ plus (is_odd c cs) (parity v cs)
parity-turn v c [] = refl
parity-turn v c (d ∷ cs) =
    let w : Valuation = put v c (not (v c)) in
    let rest : parity w cs ≡ plus (is_odd c cs) (parity v cs) = parity-turn v c cs in
    elim (cases_Bool (cell_eq d c)) [
      | inl same ↦
          let e : d ≡ c = cell_eq-true d c same in
          let here : w d ≡ not (v d) = subst (λ x. w x ≡ not (v x)) (sym e) (put-at v c (not (v c))) in
          ap (λ b. plus b (parity w cs)) here ∙ ap (plus (not (v d))) rest ∙ plus_flip (v d) (is_odd c cs) (parity v cs)
          ∙ ap (λ b. plus (plus b (is_odd c cs)) (plus (v d) (parity v cs))) (sym same)
      | inr apart ↦
          ap (λ b. plus b (parity w cs)) (put-other v c (not (v c)) d apart) ∙ ap (plus (v d)) rest ∙ plus_swap (v d) (is_odd c cs) (parity v cs)
          ∙ ap (λ b. plus (plus b (is_odd c cs)) (plus (v d) (parity v cs))) (sym apart)
    ]

-- no cell that stands an odd number of times has 1: the parity is 0
pub parity-none : (cs : List Cell) (e : Valuation) → ((d : Cell) → is_odd d cs ≡ true → e d ≡ false) → parity e cs ≡ false
parity-none [] e none = refl
parity-none (x ∷ cs) e none =
    elim (cases_Bool (e x)) [
      | inl one ↦
          let even : is_odd x (x ∷ cs) ≡ false = elim (cases_Bool (is_odd x (x ∷ cs))) [ inl odd ↦ absurd (true≢false (sym one ∙ none x odd)) | inr even ↦ even ] in
          let odd_rest : is_odd x cs ≡ true = turned (is_odd x cs) (ap (λ b. plus b (is_odd x cs)) (sym (cell_eq-itself x)) ∙ even) in
          let w : Valuation = put e x (not (e x)) in
          let rest : parity w cs ≡ false = parity-none cs w (λ d odd. elim (cell_cases d x) [
            | inl same ↦ subst (λ y. w y ≡ false) (sym same) (put-at e x (not (e x)) ∙ ap not one)
            | inr apart ↦ put-other e x (not (e x)) d apart ∙ none d (ap (λ b. plus b (is_odd d cs)) (cell_eq-swap d x apart) ∙ odd)
          ]) in
          let turn : plus (is_odd x cs) (parity e cs) ≡ false = sym (parity-turn e x cs) ∙ rest in
          ap (λ b. plus b (parity e cs)) one ∙ ap (λ b. plus b (parity e cs)) (sym odd_rest) ∙ turn
      | inr zero ↦
          let rest : parity e cs ≡ false = parity-none cs e (λ d odd. elim (cell_cases d x) [
            | inl same ↦ subst (λ y. e y ≡ false) (sym same) zero
            | inr apart ↦ none d (ap (λ b. plus b (is_odd d cs)) (cell_eq-swap d x apart) ∙ odd)
          ]) in
          ap (λ b. plus b (parity e cs)) zero ∙ rest
    ]
  where
    turned : (b : Bool) → plus true b ≡ false → b ≡ true
    turned true h = refl
    turned false h = cc

parity-plus : (v w : Valuation) (cs : List Cell) → parity (λ c. plus (v c) (w c)) cs ≡ plus (parity v cs) (parity w cs)
parity-plus v w [] = refl
parity-plus v w (c ∷ cs) =
    ap (plus (plus (v c) (w c))) (parity-plus v w cs) ∙ plus_four (v c) (w c) (parity v cs) (parity w cs)

-- two valuations that agree where a cell stands an odd number of times have one parity
pub parity-agree : (v w : Valuation) (cs : List Cell) → ((d : Cell) → is_odd d cs ≡ true → v d ≡ w d) → parity v cs ≡ parity w cs
parity-agree v w cs same =
    plus_same (parity v cs) (parity w cs) (sym (parity-plus v w cs)
    ∙ parity-none cs (λ c. plus (v c) (w c)) (λ d odd. ap (λ b. plus b (w d)) (same d odd) ∙ plus_itself (w d)))
