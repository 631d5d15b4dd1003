-- What gates give, by how many of their pins are 1, and by outputs of two bits.
use Rattle.std.proofs.Common.{ℕ, suc, ◌≡◌, ◌<◌, ◌≤◌, ◌+◌, ◌%◌, ◌&&◌, Bool, true, false, not, cond, eqb, List, [], ◌∷◌, ◌++◌, length, map, get_or, take, Some, arith, inl, inr, refl, sym, ap, subst, ◌∙◌}
use Rattle.std.specs.List.{All, count_by}
use Rattle.std.proofs.lemmas.Bool.{cases_Bool, cases_eq, cases_lt, eq-eqb, ne_eqb, true≢false}
use Rattle.std.proofs.lemmas.List.{length-map, map-append, take_more}
use Rattle.std.proofs.lemmas.List.Elements.{All-get_or, All-nil, All-push, Contains-get_or}
use Rattle.std.proofs.lemmas.List.Sums.{count_by-le-length, sum_by-cons}
use Rattle.std.proofs.Math.ListN.{get_or-eq_default}
use Rattle.sr_model.specs.declared.gates.Kind.{Kind}
use Rattle.sr_model.specs.declared.gates.Family.{Family}
use Rattle.sr_model.specs.declared.gates.Family.TheVariants.{AndLike, Parity}
use Rattle.sr_model.specs.declared.cells.Cell.{Cell}
use Rattle.sr_model.specs.declared.cells.Sig.{Sig}
use mathlib.Core.Bool.{beq}
use Rattle.sr_model.specs.AndLike.{all_have}
use Rattle.sr_model.specs.Gate.{IsPinCount, family_of, value}
use Rattle.sr_model.specs.KindLaws.{IsOfFamily}
use Rattle.sr_model.specs.Netlist.{Driver, Input, Driven, Valuation, cell_at}
use Rattle.sr_model.specs.XorLike.{parity, plus}
use Rattle.sr_model.proofs.lemmas.Laws.{has_its_family}
use Rattle.netlist.specs.Circuit.{Circuit, IsCircuit}
use Rattle.netlist.specs.Wiring.{driver_at, kind_of, pins_of, is_gate, HasPinCount}
use Rattle.netlist.specs.Ranks.{IsOrder}
use Rattle.unroll.proofs.lemmas.Tasks.{driven-within}
use Rattle.cycle_sim.specs.declared.gates.Gate.{Gate}
use Rattle.cycle_sim.specs.Frames.{IsGate, bit_by_count, output_index, value_by}

pub map-twice : {X Y Z : Type 0} (f : Y → Z) (g : X → Y) (xs : List X) → map f (map g xs) ≡ map (λ x. f (g x)) xs
map-twice f g [] = refl
map-twice f g (x ∷ xs) = ap (λ ys. f (g x) ∷ ys) (map-twice f g xs)

-- one pin more
count-cons : (f : Sig → Bool) (pin : Sig) (pins : List Sig) (b : Bool) → f pin ≡ b → count_by f (pin ∷ pins) ≡ cond b 1 0 + count_by f pins
count-cons f pin pins b is = sum_by-cons (λ x. cond (f x) 1 0) pin pins ∙ ap (λ c. cond c 1 0 + count_by f pins) is

-- one pin more is 1, or is not
next-count : (a b : ℕ) → eqb (1 + a) (suc b) ≡ eqb a b
next-count a b =
    elim (cases_eq a b) [
      | inl same ↦ eq-eqb (1 + a) (suc b) (omega (arith, same)) ∙ sym (eq-eqb a b same)
      | inr other ↦ ne_eqb (1 + a) (suc b) (λ e. other (omega (arith, e))) ∙ sym (ne_eqb a b other)
    ]

next-parity : (b : Bool) (n : ℕ) → eqb ((cond b 1 0 + n) % 2) 1 ≡ plus b (eqb (n % 2) 1)
next-parity false n = ap (λ k. eqb (k % 2) 1) (plain n)
  where
    plain : (m : ℕ) → 0 + m ≡ m
    plain m = omega arith
next-parity true n =
    elim (cases_eq (n % 2) 1) [
      | inl odd ↦ ne_eqb ((1 + n) % 2) 1 (λ e. omega (arith, e, odd)) ∙ sym (ap not (eq-eqb (n % 2) 1 odd))
      | inr even ↦ eq-eqb ((1 + n) % 2) 1 (omega (arith, even)) ∙ sym (ap not (ne_eqb (n % 2) 1 even))
    ]

-- what a valuation says of pins, by how many are 1
module _ (w : Valuation) (f : Sig → Bool) (same : (p : Sig) → w (cell_at 0 p) ≡ f p) where
  abbrev cells : List Sig → List Cell
  cells pins = map (cell_at 0) pins

  each-one : (pins : List Sig) → all_have true w (cells pins) ≡ eqb (count_by f pins) (length pins)
  each-one [] = refl
  each-one (pin ∷ pins) =
      ap (λ b. beq b true && all_have true w (cells pins)) (same pin) ∙ elim (cases_Bool (f pin)) [
        | inl one ↦
            ap (λ b. beq b true && all_have true w (cells pins)) one ∙ each-one pins ∙ sym (ap (λ n. eqb n (length (pin ∷ pins))) (count-cons f pin pins true one) ∙ next-count (count_by f pins) (length pins))
        | inr none ↦
            ap (λ b. beq b true && all_have true w (cells pins)) none
            ∙ sym (ap (λ n. eqb n (length (pin ∷ pins))) (count-cons f pin pins false none) ∙ ne_eqb (0 + count_by f pins) (length (pin ∷ pins)) (λ e. fewer (count_by f pins) (length pins) (count_by-le-length f pins) e))
      ]
    where
      fewer : (m n : ℕ) → m ≤ n → 0 + m ≡ suc n → ⊥
      fewer m n h e = omega (arith, h, e)

  none-one : (pins : List Sig) → all_have false w (cells pins) ≡ eqb (count_by f pins) 0
  none-one [] = refl
  none-one (pin ∷ pins) =
      ap (λ b. beq b false && all_have false w (cells pins)) (same pin) ∙ elim (cases_Bool (f pin)) [
        | inl one ↦
            ap (λ b. beq b false && all_have false w (cells pins)) one
            ∙ sym (ap (λ n. eqb n 0) (count-cons f pin pins true one) ∙ ne_eqb (1 + count_by f pins) 0 (λ e. more (count_by f pins) e))
        | inr none ↦ ap (λ b. beq b false && all_have false w (cells pins)) none ∙ none-one pins ∙ sym (ap (λ n. eqb n 0) (count-cons f pin pins false none ∙ plain (count_by f pins)))
      ]
    where
      more : (n : ℕ) → 1 + n ≡ 0 → ⊥
      more n e = omega (arith, e)

      plain : (n : ℕ) → 0 + n ≡ n
      plain n = omega arith

  odd-one : (pins : List Sig) → parity w (cells pins) ≡ eqb (count_by f pins % 2) 1
  odd-one [] = refl
  odd-one (pin ∷ pins) =
      ap (λ b. plus b (parity w (cells pins))) (same pin) ∙ ap (plus (f pin)) (odd-one pins)
      ∙ sym (ap (λ n. eqb (n % 2) 1) (count-cons f pin pins (f pin) refl) ∙ next-parity (f pin) (count_by f pins))

  by-family : (family : Family) (kind : Kind) (pins : List Sig) → IsOfFamily family (record { kind = kind; target = cell_at 0 (record { 0 = 0 }); pins = cells pins })
      → value kind (map w (cells pins)) ≡ bit_by_count family (count_by f pins) (length pins)
  by-family (AndLike true target) kind pins law = law w ∙ ap (λ b. cond b target (not target)) (each-one pins)
  by-family (AndLike false target) kind pins law = law w ∙ ap (λ b. cond b target (not target)) (none-one pins)
  by-family (Parity inverted) kind pins law = law w ∙ ap (plus inverted) (odd-one pins)

-- what is given, by the kind
value-kind : (d : Driver) (k : Kind) (f : Sig → Bool) → kind_of d ≡ Some k → value k (map f (pins_of d)) ≡ value_by d f
value-kind Input k f e = cc
value-kind (Driven kind pins) k f e = ap (λ x. value x (map f pins)) (same k kind e)
  where
    same : (a b : Kind) → Some b ≡ Some a → a ≡ b
    same a b e = cc

value-count : (kind : Kind) (pins : List Sig) (f : Sig → Bool) → IsPinCount kind (length pins) → value kind (map f pins) ≡ bit_by_count (family_of kind) (count_by f pins) (length pins)
value-count kind pins f count =
    ap (value kind) (sym (map-twice (λ (c : Cell). f c.sig) (cell_at 0) pins))
    ∙ by-family (λ c. f c.sig) f (λ p. refl) (family_of kind) kind pins
    (has_its_family (record { kind = kind; target = cell_at 0 (record { 0 = 0 }); pins = map (cell_at 0) pins }) (subst (IsPinCount kind) (sym (length-map pins (cell_at 0))) count))

-- the pins of each gate or flip-flop are signals
pub its-pins : (c : Circuit) → IsCircuit c → (s : ℕ) → All (λ (x : Sig). x.0 < length c.drivers) (pins_of (driver_at c.drivers s))
its-pins c is s =
    elim (cases_lt s (length c.drivers)) [
      | inl below ↦ All-get_or (λ d. All (λ (x : Sig). x.0 < length c.drivers) (pins_of d)) c.drivers s Input below is.wired
      | inr past ↦ subst (λ d. All (λ (x : Sig). x.0 < length c.drivers) (pins_of d)) (sym (get_or-eq_default c.drivers Input past)) (All-nil (λ (x : Sig). x.0 < length c.drivers))
    ]

-- a kind has as many pins as it may have, and they are signals
module _ (c : Circuit) (is : IsCircuit c) (s : ℕ) (k : Kind) (kind : kind_of (driver_at c.drivers s) ≡ Some k) where
  pub its-count : IsPinCount k (length (pins_of (driver_at c.drivers s)))
  its-count = at (driver_at c.drivers s) kind (All-get_or HasPinCount c.drivers s Input (below (driver_at c.drivers s) refl kind) is.pin_counts)
    where
      at : (d : Driver) → kind_of d ≡ Some k → HasPinCount d → IsPinCount k (length (pins_of d))
      at Input e h = cc
      at (Driven x pins) e h = subst (λ y. IsPinCount y (length pins)) (same x k e) h
        where
          same : (a b : Kind) → Some a ≡ Some b → a ≡ b
          same a b e = cc

      below : (d : Driver) → driver_at c.drivers s ≡ d → kind_of d ≡ Some k → s < length c.drivers
      below Input at e = cc
      below (Driven x pins) at e = driven-within c.drivers s x pins at

-- so a gate's bit follows from how many of its pins are 1
pub count-gives : (c : Circuit) → IsCircuit c → (s : ℕ) (k : Kind) (f : Sig → Bool) (ones : ℕ) (pins : List Sig) → kind_of (driver_at c.drivers s) ≡ Some k → pins ≡ pins_of (driver_at c.drivers s) → ones ≡ count_by f pins
    → bit_by_count (family_of k) ones (length pins) ≡ value_by (driver_at c.drivers s) f
count-gives c is s k f ones pins kind pins_are counted =
    ap (λ n. bit_by_count (family_of k) n (length pins)) counted ∙ ap (λ ps. bit_by_count (family_of k) (count_by f ps) (length ps)) pins_are
    ∙ sym (value-count k (pins_of (driver_at c.drivers s)) f (its-count c is s k kind)) ∙ value-kind (driver_at c.drivers s) k f kind

-- the outputs of a gate with one pin, and with two
module _ (c : Circuit) (is : IsCircuit c) (s : Sig) (within : s.0 < length c.drivers) (driven : is_gate (driver_at c.drivers s.0) ≡ true) (k : Kind) (kind : kind_of (driver_at c.drivers s.0) ≡ Some k)
    (pins : List Sig) (pins_are : pins ≡ pins_of (driver_at c.drivers s.0)) where
  pin-within : (i : ℕ) (d : Sig) → i < length pins → (get_or pins i d).0 < length c.drivers
  pin-within i d h = All-get_or (λ (x : Sig). x.0 < length c.drivers) pins i d h (subst (All (λ (x : Sig). x.0 < length c.drivers)) (sym pins_are) (its-pins c is s.0))

  value-of : (bits : Sig → Bool) → value k (map bits pins) ≡ value_by (driver_at c.drivers s.0) bits
  value-of bits = ap (λ ps. value k (map bits ps)) pins_are ∙ value-kind (driver_at c.drivers s.0) k bits kind

  pub lone-gate : (outputs : List Bool) → length pins ≡ 1 → ((b : Bool) → get_or outputs (output_index b b) false ≡ value k (b ∷ []))
      → IsGate c (record { target = s; first = get_or pins 0 (record { 0 = 0 }); second = get_or pins 0 (record { 0 = 0 }); outputs = outputs; wide = false })
  lone-gate outputs one are_outputs = record {
    target = within;
    driven = driven;
    first = pin-within 0 (record { 0 = 0 }) (omega (arith, one));
    second = pin-within 0 (record { 0 = 0 }) (omega (arith, one));
    outputs = λ narrow bits. are_outputs (bits (get_or pins 0 (record { 0 = 0 }))) ∙ ap (λ ps. value k (map bits ps)) (sym (lone-list pins one)) ∙ value-of bits;
  }
    where
      lone-list : (ps : List Sig) → length ps ≡ 1 → ps ≡ get_or ps 0 (record { 0 = 0 }) ∷ []
      lone-list [] e = absurd (omega (arith, e))
      lone-list (p ∷ []) e = refl
      lone-list (p ∷ q ∷ ps) e = absurd (omega (arith, e))

  pub pair-gate : (outputs : List Bool) → length pins ≡ 2 → ((a b : Bool) → get_or outputs (output_index a b) false ≡ value k (a ∷ b ∷ []))
      → IsGate c (record { target = s; first = get_or pins 0 (record { 0 = 0 }); second = get_or pins 1 (record { 0 = 0 }); outputs = outputs; wide = false })
  pair-gate outputs two are_outputs = record {
    target = within;
    driven = driven;
    first = pin-within 0 (record { 0 = 0 }) (omega (arith, two));
    second = pin-within 1 (record { 0 = 0 }) (omega (arith, two));
    outputs = λ narrow bits. are_outputs (bits (get_or pins 0 (record { 0 = 0 }))) (bits (get_or pins 1 (record { 0 = 0 }))) ∙ ap (λ ps. value k (map bits ps)) (sym (pair-list pins two)) ∙ value-of bits;
  }
    where
      pair-list : (ps : List Sig) → length ps ≡ 2 → ps ≡ get_or ps 0 (record { 0 = 0 }) ∷ get_or ps 1 (record { 0 = 0 }) ∷ []
      pair-list [] e = absurd (omega (arith, e))
      pair-list (p ∷ []) e = absurd (omega (arith, e))
      pair-list (p ∷ q ∷ []) e = refl
      pair-list (p ∷ q ∷ r ∷ ps) e = absurd (omega (arith, e))

  -- and so many pins it may have
  pub pair-count : length pins ≡ 2 → IsPinCount k 2
  pair-count two = subst (IsPinCount k) (ap length (sym pins_are) ∙ two) (its-count c is s.0 k kind)

-- one gate more of those in order
module _ (c : Circuit) (order : List Sig) (is : IsOrder c.drivers order) (i : ℕ) (d : Sig) (h : i < length order) where
  pub order-gate : is_gate (driver_at c.drivers (get_or order i d).0) ≡ true
  order-gate = (is.gates (get_or order i d)).0 (Contains-get_or order i d h)

  pub order-within : (get_or order i d).0 < length c.drivers
  order-within =
      elim (cases_lt (get_or order i d).0 (length c.drivers)) [
        | inl below ↦ below
        | inr past ↦ absurd (true≢false (sym order-gate ∙ ap is_gate (get_or-eq_default c.drivers Input past)))
      ]

  pub gates-more : (gates : List Gate) (gate : Gate) → gate.target ≡ get_or order i d → IsGate c gate → (map (λ (g : Gate). g.target) gates ≡ take i order) × All (IsGate c) gates
      → (map (λ (g : Gate). g.target) (gates ++ gate ∷ []) ≡ take (i + 1) order) × All (IsGate c) (gates ++ gate ∷ [])
  gates-more gates gate target is_gate before = (
    map-append (λ (g : Gate). g.target) gates (gate ∷ []) ∙ ap (λ xs. xs ++ gate.target ∷ []) before.0 ∙ ap (λ s. take i order ++ s ∷ []) target ∙ sym (take_more order i d h),
    All-push (IsGate c) gates gate before.1 is_gate,
  )
