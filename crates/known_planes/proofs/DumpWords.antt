-- The literals of up to 64 cells of a dump in two words.
use Rattle.std.proofs.Common.{ℕ, ◌≡◌, ◌+◌, ◌-◌, ◌*◌, ◌%◌, ◌<◌, ◌≤◌, ◌^◌, ◌&&◌, ◌||◌, Bool, true, false, eqb, ltb, min, List, length, get_or, drop, map, arith, inl, inr, sym, ap, refl, bit_or, Some, slice_get, ◌∙◌}
use Rattle.std.specs.Int.{bit_at}
use Rattle.std.specs.List.{slice_range}
use Rattle.std.specs.Prelude.{option_map}
use Rattle.std.proofs.lemmas.Bool.{cases_eq, cases_lt, cases_order, lt-ltb, le-ltb, eq-eqb, ne_eqb}
use Rattle.std.proofs.lemmas.List.{get_or-take, get_or-drop, length-take, length-drop}
use Rattle.std.proofs.lemmas.Nat.{one_shl}
use Rattle.std.proofs.lemmas.Nat.Bits.{bit_at-pow_same, bit_at-pow_other}
use Rattle.std.proofs.lemmas.Option.{slice_get-map, slice_get-get_or, slice_get_past}
use Rattle.sr_model.specs.Dump.{is_bit}
use Rattle.dump_reader.specs.declared.dump.Tri.{Tri}
use Rattle.dump_reader.specs.declared.dump.Tri.TheVariants.{Zero, One, X}
use Rattle.dump_reader.specs.Recording.{tri_bit}
use Rattle.unroll.specs.declared.words.PinWord.{PinWord}
use Rattle.unroll.specs.Bits.{is_set, word_for, no_words}
use Rattle.unroll.proofs.lemmas.Words.{is_set_or, is_set_zero}

-- the words have the bits of the first k cells
abbrev pub HasFirst : List Tri → ℕ → PinWord → Type 0
HasFirst cells k w = (bit : Bool) (i : ℕ) → is_set (word_for bit w) i ≡ (ltb i k && is_bit (slice_get (map tri_bit cells) i) bit)

-- the word with one bit
one-bit : (k i : ℕ) → k < 64 → is_set (1 * 2 ^ k % 2 ^ 64) i ≡ eqb i k
unfolding is_set
one-bit k i few =
    ap (λ n. eqb (bit_at n i) 1) (one_shl k 64 few) ∙ elim (cases_eq i k) [
      | inl same ↦ ap (λ n. eqb (bit_at (2 ^ k) n) 1) same ∙ ap (λ n. eqb n 1) (bit_at-pow_same k) ∙ sym (eq-eqb i k same)
      | inr other ↦ ap (λ n. eqb n 1) (bit_at-pow_other k i other) ∙ sym (ne_eqb i k other)
    ]

or-false : (b : Bool) → (b || false) ≡ b
or-false true = refl
or-false false = refl

and-false : (b : Bool) → (b && false) ≡ false
and-false true = refl
and-false false = refl

-- one cell more: its bit is joined, or it has none
joined-more : (i k : ℕ) (x : Bool) → (i ≡ k → x ≡ true) → ((ltb i k && x) || eqb i k) ≡ (ltb i (k + 1) && x)
joined-more i k x there =
    elim (cases_order i k) [
      | inl same ↦
          let a : ltb i k ≡ false = le-ltb i k (omega arith) in
          let b : ltb i (k + 1) ≡ true = lt-ltb i (k + 1) (omega arith) in
          let e : eqb i k ≡ true = eq-eqb i k same in
          let x_is : x ≡ true = there same in
          cc
      | inr (inl below) ↦
          let a : ltb i k ≡ true = lt-ltb i k below in
          let b : ltb i (k + 1) ≡ true = lt-ltb i (k + 1) (omega arith) in
          let e : eqb i k ≡ false = ne_eqb i k (λ same. omega arith) in
          ap (λ t. (t && x) || eqb i k) a ∙ ap (λ t. x || t) e ∙ or-false x ∙ sym (ap (λ t. t && x) b)
      | inr (inr above) ↦
          let a : ltb i k ≡ false = le-ltb i k (omega arith) in
          let b : ltb i (k + 1) ≡ false = le-ltb i (k + 1) (omega arith) in
          let e : eqb i k ≡ false = ne_eqb i k (λ same. omega arith) in
          ap (λ t. (t && x) || eqb i k) a ∙ e ∙ sym (ap (λ t. t && x) b)
    ]

left-more : (i k : ℕ) (x : Bool) → (i ≡ k → x ≡ false) → (ltb i k && x) ≡ (ltb i (k + 1) && x)
left-more i k x there =
    elim (cases_order i k) [
      | inl same ↦ ap (λ t. ltb i k && t) (there same) ∙ and-false (ltb i k) ∙ sym (ap (λ t. ltb i (k + 1) && t) (there same) ∙ and-false (ltb i (k + 1)))
      | inr (inl below) ↦ ap (λ t. t && x) (lt-ltb i k below) ∙ sym (ap (λ t. t && x) (lt-ltb i (k + 1) (omega arith)))
      | inr (inr above) ↦ ap (λ t. t && x) (le-ltb i k (omega arith)) ∙ sym (ap (λ t. t && x) (le-ltb i (k + 1) (omega arith)))
    ]

module _ (cells : List Tri) (k : ℕ) (w : PinWord) (few : length cells ≤ 64) (h : k < length cells) (first : HasFirst cells k w) where
  -- the bit of the cell
  cell-bit : (t : Tri) → get_or cells k Zero ≡ t → (bit : Bool) (i : ℕ) → i ≡ k → is_bit (slice_get (map tri_bit cells) i) bit ≡ is_bit (Some (tri_bit t)) bit
  cell-bit t is bit i same =
      ap (λ n. is_bit (slice_get (map tri_bit cells) n) bit) same ∙ ap (λ x. is_bit x bit) (slice_get-map tri_bit cells k)
      ∙ ap (λ x. is_bit (option_map tri_bit x) bit) (slice_get-get_or cells k Zero h)
      ∙ ap (λ x. is_bit (Some (tri_bit x)) bit) is

  join-bit : (bit : Bool) → ((i : ℕ) → i ≡ k → is_bit (slice_get (map tri_bit cells) i) bit ≡ true)
      → (i : ℕ) → is_set (bit_or (word_for bit w) (1 * 2 ^ k % 2 ^ 64)) i ≡ (ltb i (k + 1) && is_bit (slice_get (map tri_bit cells) i) bit)
  join-bit bit there i =
      is_set_or (word_for bit w) (1 * 2 ^ k % 2 ^ 64) i
      ∙ ap (λ t. t || is_set (1 * 2 ^ k % 2 ^ 64) i) (first bit i)
      ∙ ap (λ t. (ltb i k && is_bit (slice_get (map tri_bit cells) i) bit) || t) (one-bit k i (omega (arith, few, h)))
      ∙ joined-more i k (is_bit (slice_get (map tri_bit cells) i) bit) (there i)

  leave-bit : (bit : Bool) → ((i : ℕ) → i ≡ k → is_bit (slice_get (map tri_bit cells) i) bit ≡ false)
      → (i : ℕ) → is_set (word_for bit w) i ≡ (ltb i (k + 1) && is_bit (slice_get (map tri_bit cells) i) bit)
  leave-bit bit there i = first bit i ∙ left-more i k (is_bit (slice_get (map tri_bit cells) i) bit) (there i)

  pub zero-more : get_or cells k Zero ≡ Zero → HasFirst cells (k + 1) (record { zero = bit_or w.zero (1 * 2 ^ k % 2 ^ 64); one = w.one })
  zero-more is false i = join-bit false (λ i same. cell-bit Zero is false i same) i
  zero-more is true i = leave-bit true (λ i same. cell-bit Zero is true i same) i

  pub one-more : get_or cells k Zero ≡ One → HasFirst cells (k + 1) (record { zero = w.zero; one = bit_or w.one (1 * 2 ^ k % 2 ^ 64) })
  one-more is false i = leave-bit false (λ i same. cell-bit One is false i same) i
  one-more is true i = join-bit true (λ i same. cell-bit One is true i same) i

  pub x-more : get_or cells k Zero ≡ X → HasFirst cells (k + 1) w
  x-more is false i = leave-bit false (λ i same. cell-bit X is false i same) i
  x-more is true i = leave-bit true (λ i same. cell-bit X is true i same) i

-- no cell
pub has-none : (cells : List Tri) → HasFirst cells 0 no_words
has-none cells true i = is_set_zero i ∙ sym (ap (λ t. t && is_bit (slice_get (map tri_bit cells) i) true) (le-ltb i 0 (omega arith)))
has-none cells false i = is_set_zero i ∙ sym (ap (λ t. t && is_bit (slice_get (map tri_bit cells) i) false) (le-ltb i 0 (omega arith)))

-- past the cells there is no bit
pub no-bit-past : (cells : List Tri) (i : ℕ) (bit : Bool) → length cells ≤ i → is_bit (slice_get (map tri_bit cells) i) bit ≡ false
no-bit-past cells i bit past = ap (λ x. is_bit x bit) (slice_get-map tri_bit cells i) ∙ ap (λ x. is_bit (option_map tri_bit x) bit) (slice_get_past cells i past)

-- all cells
pub has-all : (cells : List Tri) (k : ℕ) (w : PinWord) → length cells ≤ k → HasFirst cells k w → (bit : Bool) (i : ℕ) → is_set (word_for bit w) i ≡ is_bit (slice_get (map tri_bit cells) i) bit
has-all cells k w all first bit i =
    first bit i ∙ elim (cases_lt i k) [
      | inl h ↦ ap (λ t. t && is_bit (slice_get (map tri_bit cells) i) bit) (lt-ltb i k h)
      | inr h ↦ ap (λ t. t && is_bit (slice_get (map tri_bit cells) i) bit) (le-ltb i k h) ∙ sym (no-bit-past cells i bit (omega (arith, all, h)))
    ]

-- the cells of a chunk
pub chunk-cell : (cells : List Tri) (start end i : ℕ) → end ≡ min (length cells) (start + 64) → i < 64
    → slice_get (map tri_bit (slice_range cells start end)) i ≡ slice_get (map tri_bit cells) (start + i)
chunk-cell cells start end i is few =
    slice_get-map tri_bit (slice_range cells start end) i ∙ ap (option_map tri_bit) same ∙ sym (slice_get-map tri_bit cells (start + i))
  where
    size : length (slice_range cells start end) ≡ min (end - start) (length cells - start)
    size = length-take (end - start) (drop start cells) ∙ ap (min (end - start)) (length-drop start cells)

    same : slice_get (slice_range cells start end) i ≡ slice_get cells (start + i)
    same =
        elim (cases_lt (start + i) (length cells)) [
          | inl h ↦
              slice_get-get_or (slice_range cells start end) i X (omega (arith, size, is, h, few))
              ∙ ap Some (get_or-take (end - start) (drop start cells) i X (omega (arith, is, h, few)) ∙ get_or-drop start cells i X)
              ∙ sym (slice_get-get_or cells (start + i) X h)
          | inr h ↦ slice_get_past (slice_range cells start end) i (omega (arith, size, is, h)) ∙ sym (slice_get_past cells (start + i) h)
        ]
