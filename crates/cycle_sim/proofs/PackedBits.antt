-- Bits in words, one after another, and words in a row.
use Rattle.std.proofs.Common.{ℕ, ◌≡◌, ◌<◌, ◌≤◌, ◌⊎◌, ◌+◌, ◌-◌, ◌*◌, ◌/◌, ◌%◌, ◌^◌, ◌||◌, Bool, true, false, eqb, List, length, get_or, set, bit_or, arith, inl, inr, refl, sym, ap, subst, ◌∙◌}
use Rattle.std.proofs.lemmas.Bool.{cases_eq, cases_lt}
use Rattle.std.proofs.lemmas.List.{get_or-set_same, get_or-set_other, get_or_default}
use Rattle.std.proofs.Math.ListN.{get_or-eq_default}
use Rattle.std.proofs.Math.Nat.{mul-le-mul_right}
use mir.Val.{bool_byte}
use Rattle.std.proofs.lemmas.Nat.Bits.{bit_at_above}
use Rattle.unroll.specs.Bits.{is_set}
use Rattle.cycle_sim.specs.BitTable.{BitTable, HasItsWords, row_words, bit_in}
use Rattle.unroll.proofs.lemmas.Words.{is_set_or, is_set_shl_low, is_set_shl_high}

-- the bits of 0 and 1
abbrev pub digit : Bool → ℕ
digit true = 1
digit false = 0

set-digit : (b : Bool) → is_set (digit b) 0 ≡ b
unfolding is_set
set-digit true = refl
set-digit false = refl

set-above : (b : Bool) (i : ℕ) → 1 ≤ i → is_set (digit b) i ≡ false
unfolding is_set
set-above true i above = ap (λ n. eqb n 1) (bit_at_above 1 1 i (omega arith) above)
set-above false i above = ap (λ n. eqb n 1) (bit_at_above 0 1 i (omega arith) above)

or-false : (b : Bool) → (b || false) ≡ b
or-false true = refl
or-false false = refl

module _ (bits : List Bool) (from i word : ℕ) (within : i < 64)
    (earlier : (k : ℕ) → k < i → is_set word k ≡ get_or bits (from + k) false) (later : (k : ℕ) → i ≤ k → k < 64 → is_set word k ≡ false) where
  added : ℕ
  added = bit_or word (digit (get_or bits (from + i) false) * 2 ^ i % 2 ^ 64)

  pub earlier-more : (k : ℕ) → k < i + 1 → is_set (bit_or word (digit (get_or bits (from + i) false) * 2 ^ i % 2 ^ 64)) k ≡ get_or bits (from + k) false
  earlier-more k h =
      elim (cases_lt k i) [
        | inl below ↦
            is_set_or word (digit (get_or bits (from + i) false) * 2 ^ i % 2 ^ 64) k
            ∙ ap (λ b. is_set word k || b) (is_set_shl_low (digit (get_or bits (from + i) false)) i k (omega (arith, within, below)) below) ∙ or-false (is_set word k) ∙ earlier k below
        | inr past ↦
            let same : k ≡ i = omega (arith, h, past) in
            is_set_or word (digit (get_or bits (from + i) false) * 2 ^ i % 2 ^ 64) k
            ∙ ap (λ b. b || is_set (digit (get_or bits (from + i) false) * 2 ^ i % 2 ^ 64) k) (later k past (omega (arith, within, same)))
            ∙ is_set_shl_high (digit (get_or bits (from + i) false)) i k (omega (arith, within, same)) past
            ∙ ap (is_set (digit (get_or bits (from + i) false))) (none k i same) ∙ set-digit (get_or bits (from + i) false) ∙ ap (λ n. get_or bits (from + n) false) (sym same)
      ]
    where
      none : (a b : ℕ) → a ≡ b → a - b ≡ 0
      none a b e = omega (arith, e)

  pub later-more : (k : ℕ) → i + 1 ≤ k → k < 64 → is_set (bit_or word (digit (get_or bits (from + i) false) * 2 ^ i % 2 ^ 64)) k ≡ false
  later-more k h few =
      is_set_or word (digit (get_or bits (from + i) false) * 2 ^ i % 2 ^ 64) k
      ∙ ap (λ b. b || is_set (digit (get_or bits (from + i) false) * 2 ^ i % 2 ^ 64) k) (later k (omega (arith, h)) few)
      ∙ is_set_shl_high (digit (get_or bits (from + i) false)) i k few (omega (arith, h)) ∙ set-above (get_or bits (from + i) false) (k - i) (omega (arith, h))

pub byte-digit : (b : Bool) → bool_byte b ≡ digit b
byte-digit true = refl
byte-digit false = refl

-- behind the end of the bits there is none
pub bits-end : (bits : List Bool) (from n word i : ℕ) → ((k : ℕ) → k < n → is_set word k ≡ get_or bits (from + k) false) → ((k : ℕ) → n ≤ k → k < 64 → is_set word k ≡ false)
    → (64 ≤ n) ⊎ (length bits ≤ from + n) → i < 64 → is_set word i ≡ get_or bits (from + i) false
bits-end bits from n word i earlier later end few =
    elim (cases_lt i n) [
      | inl below ↦ earlier i below
      | inr past ↦ elim end [
        | inl all ↦ absurd (omega (arith, all, few, past))
        | inr none ↦ later i past few ∙ sym (get_or-eq_default bits false (omega (arith, none, past)))
      ]
    ]

-- one word more
module _ (bits : List Bool) (words old : List ℕ) (start k w : ℕ) (within : start + k < length words)
    (is : (i : ℕ) → i < 64 → is_set w i ≡ get_or bits (64 * k + i) false)
    (here : (m i : ℕ) → m < k → i < 64 → is_set (get_or words (start + m) 0) i ≡ get_or bits (64 * m + i) false)
    (elsewhere : (p : ℕ) → (p < start) ⊎ (start + k ≤ p) → get_or words p 0 ≡ get_or old p 0) where
  pub here-more : (m i : ℕ) → m < k + 1 → i < 64 → is_set (get_or (set words (start + k) w) (start + m) 0) i ≡ get_or bits (64 * m + i) false
  here-more m i h few =
      elim (cases_eq m k) [
        | inl same ↦
            ap (λ n. is_set (get_or (set words (start + k) w) (start + n) 0) i) same ∙ ap (λ x. is_set x i) (get_or-set_same words (start + k) w 0 within) ∙ is i few
            ∙ ap (λ n. get_or bits (64 * n + i) false) (sym same)
        | inr other ↦
            ap (λ x. is_set x i) (get_or-set_other words (start + k) (start + m) w 0 (λ e. other (cancel start m k e))) ∙ here m i (omega (arith, h, other)) few
      ]
    where
      cancel : (a b c : ℕ) → a + b ≡ a + c → b ≡ c
      cancel a b c e = omega (arith, e)

  pub elsewhere-more : (p : ℕ) → (p < start) ⊎ (start + (k + 1) ≤ p) → get_or (set words (start + k) w) p 0 ≡ get_or old p 0
  elsewhere-more p h =
      elim h [
        | inl before ↦ get_or-set_other words (start + k) p w 0 (λ e. low p start k before e) ∙ elsewhere p (inl before)
        | inr behind ↦ get_or-set_other words (start + k) p w 0 (λ e. high p start k behind e) ∙ elsewhere p (inr (omega (arith, behind)))
      ]
    where
      low : (p a b : ℕ) → p < a → p ≡ a + b → ⊥
      low p a b h e = omega (arith, h, e)

      high : (p a b : ℕ) → a + (b + 1) ≤ p → p ≡ a + b → ⊥
      high p a b h e = omega (arith, h, e)

pub bit-is : (n i : ℕ) → eqb (n / 2 ^ i % 2) 1 ≡ is_set n i
unfolding is_set
bit-is n i = refl

-- a place in another row is before the row's words or behind them
pub other-row : (r row k w : ℕ) → (r ≡ row → ⊥) → k < w → (r * w + k < row * w) ⊎ (row * w + w ≤ r * w + k)
other-row r row k w apart within =
    elim (cases_lt r row) [
      | inl below ↦ inl (low r row k w (mul-le-mul_right {m = r + 1} {n = row} w (omega (arith, below))) within)
      | inr above ↦ inr (high r row k w (mul-le-mul_right {m = row + 1} {n = r} w (omega (arith, above, apart))))
    ]
  where
    next : (a b : ℕ) → (a + 1) * b ≡ a * b + b
    next a b = grind arith

    low : (r row k w : ℕ) → (r + 1) * w ≤ row * w → k < w → r * w + k < row * w
    low r row k w h few = let e : (r + 1) * w ≡ r * w + w = next r w in omega (arith, h, few, e)

    high : (r row k w : ℕ) → (row + 1) * w ≤ r * w → row * w + w ≤ r * w + k
    high r row k w h = let e : (row + 1) * w ≡ row * w + w = next row w in omega (arith, h, e)

pub column-word : (c width : ℕ) → c < width → c / 64 < (width + 63) / 64
column-word c width h = omega (arith, h)

pub place-within : (row count w k : ℕ) → row < count → k < w → row * w + k < count * w
place-within row count w k below within =
    let rows : (row + 1) * w ≤ count * w = mul-le-mul_right {m = row + 1} {n = count} w (omega (arith, below)) in
    let e : (row + 1) * w ≡ row * w + w = next row w in
    omega (arith, rows, e, within)
  where
    next : (a b : ℕ) → (a + 1) * b ≡ a * b + b
    next a b = grind arith

-- the bit of a table whose word was read
pub bit-read : (t : BitTable) (row column size word : ℕ) → row < t.count → column < t.width → HasItsWords t → size ≡ row_words t.width → word ≡ get_or t.words (row * size + column / 64) word
    → is_set word (column % 64) ≡ bit_in t row column
bit-read t row column size word row_within column_within is size_is read =
    let within : row * row_words t.width + column / 64 < length t.words =
    subst (λ n. row * row_words t.width + column / 64 < n) (sym is) (place-within row t.count (row_words t.width) (column / 64) row_within (column-word column t.width column_within)) in
    ap (λ x. is_set x (column % 64)) (read ∙ ap (λ n. get_or t.words (row * n + column / 64) word) size_is ∙ get_or_default t.words (row * row_words t.width + column / 64) word 0 within)

-- the bits of the rows that were not replaced
pub other-bit : (t u : BitTable) (row r column size : ℕ) (bits : List Bool) → (r ≡ row → ⊥) → column < t.width → size ≡ row_words t.width → length bits ≡ t.width → u.width ≡ t.width
    → ((p : ℕ) → (p < row * size) ⊎ (row * size + row_words (length bits) ≤ p) → get_or u.words p 0 ≡ get_or t.words p 0) → bit_in u r column ≡ bit_in t r column
other-bit t u row r column size bits apart within size_is long same_width elsewhere =
    ap (λ n. is_set (get_or u.words (r * row_words n + column / 64) 0) (column % 64)) same_width
    ∙ ap (λ x. is_set x (column % 64)) (elsewhere (r * row_words t.width + column / 64)
    (subst (λ n. (r * row_words t.width + column / 64 < row * n) ⊎ (row * n + row_words (length bits) ≤ r * row_words t.width + column / 64)) (sym size_is)
    (subst (λ n. (r * row_words t.width + column / 64 < row * row_words t.width) ⊎ (row * row_words t.width + row_words n ≤ r * row_words t.width + column / 64)) (sym long)
    (other-row r row (column / 64) (row_words t.width) apart (column-word column t.width within)))))
