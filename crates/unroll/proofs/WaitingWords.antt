-- The tasks that wait, after one word of their bits is replaced.
use Rattle.std.proofs.Common.{ℕ, suc, pow-suc, ◌≡◌, ◌-◌, ◌+◌, ◌*◌, ◌/◌, ◌%◌, ◌<◌, ◌≤◌, ◌^◌, ◌⊎◌, ◌&&◌, Bool, true, false, not, List, [], ◌∷◌, ◌++◌, length, length-set, get_or, set, sum, replicate, arith, inl, inr, sym, ap, subst, bit_and, bit_or, bit_xor, refl, eqb, ltb, ◌∙◌}
use Rattle.std.specs.Bool.{beq}
use Rattle.std.specs.Int.{bit_not, w64, bit_at, trailing_zeros, leading_zeros}
use Rattle.std.proofs.Math.Pow.{pow-lt}
use Rattle.std.proofs.lemmas.Bool.{cases_Bool, cases_eq, cases_lt, true≢false, lt-ltb, le-ltb, ltb-true, ltb-false, eqb-true, eqb-false, not-true, not-false, or_cases, or_left, or_right, and_from, and_parts}
use Rattle.std.proofs.lemmas.Nat.{same_from_place, mul-add-lt, and_le_l, div-add-mod', leading_top}
use Rattle.std.proofs.lemmas.Nat.Bits.{bit_at-trailing_zeros, bit_at_cat_high, bit_at-pow_same}
use Rattle.std.proofs.lemmas.List.{get_or-set_same, get_or-set_other, get_or-replicate, get_or_default, length-replicate}
use Rattle.std.proofs.Math.ListN.{get_or-eq_default}
use Rattle.std.proofs.lemmas.List.Sums.{sum_by-set}
use Rattle.std.proofs.lemmas.List.Elements.{Contains-append_left, Contains-append_right, Contains-append_cases}
use Rattle.sr_model.proofs.lemmas.Members.{Contains-cases, Contains-here, not_in_nil}
use Rattle.std.specs.List.{Contains}
use Rattle.sr_model.specs.declared.cells.Sig.{Sig}
use Rattle.sr_model.specs.Limits.{max_signals}
use Rattle.sr_model.specs.XorLike.{plus}
use Rattle.unroll.specs.Bits.{is_set}
use Rattle.unroll.specs.Waiting.{Waiting, Waits, Adds, AddsBut, IsFirstRow, IsNextFrom, IsIdle, IsKept, mark_length, mark_word, row_has_task, row_length, row_word, with_word, waiting_measure}
use Rattle.unroll.proofs.WordBits.{is_set_and, is_set_or, is_set_xor, is_set_not, is_set_shl_high, is_set_shl_low, is_set_zero}
use Rattle.unroll.proofs.Masks.{all-set, alone-set, alone-only}

pub row-within : (q : Waiting) (s : Sig) → s.0 < q.signals → s.0 / 64 < row_length q.signals
row-within q s h = omega (arith, h)

-- a signal is that of its word and bit
pub sig-is : (s : Sig) → s.0 / 64 * 64 + s.0 % 64 ≡ s.0
sig-is s = div-add-mod' s.0 64

pub same-sig : (s t : Sig) → s.0 / 64 ≡ t.0 / 64 → s.0 % 64 ≡ t.0 % 64 → s ≡ t
same-sig s t row bit = ap (λ n. record { 0 = n }) (sym (sig-is s) ∙ ap (λ r. r * 64 + s.0 % 64) row ∙ ap (λ i. t.0 / 64 * 64 + i) bit ∙ sig-is t)

module _ (q : Waiting) (chunk r word : ℕ) (row : r < row_length q.signals) (within : chunk * row_length q.signals + r < length q.words) where
  pub word-there : row_word q.signals (with_word q chunk r word).words chunk r ≡ word
  word-there = get_or-set_same q.words (chunk * row_length q.signals + r) word 0 within

  pub word-elsewhere : (c k : ℕ) → k < row_length q.signals → ((c ≡ chunk) × (k ≡ r) → ⊥) → row_word q.signals (with_word q chunk r word).words c k ≡ row_word q.signals q.words c k
  word-elsewhere c k other apart =
      get_or-set_other q.words (chunk * row_length q.signals + r) (c * row_length q.signals + k) word 0
      (λ same. apart (same_from_place c k chunk r (row_length q.signals) other row same))

  -- the word has this bit, or is another one
  pub its-word : (c k : ℕ) → k < row_length q.signals
      → ((c ≡ chunk) × (k ≡ r) × (row_word q.signals (with_word q chunk r word).words c k ≡ word)) ⊎ (row_word q.signals (with_word q chunk r word).words c k ≡ row_word q.signals q.words c k)
  its-word c k other =
      elim (cases_eq c chunk) [
        | inl same ↦ elim (cases_eq k r) [
          | inl same_row ↦ inl (same, same_row, ap (λ n. row_word q.signals (with_word q chunk r word).words n k) same ∙ ap (row_word q.signals (with_word q chunk r word).words chunk) same_row ∙ word-there)
          | inr apart ↦ inr (word-elsewhere c k other (λ e. apart e.1))
        ]
        | inr apart ↦ inr (word-elsewhere c k other (λ e. apart e.0))
      ]

-- one more task
module _ (q : Waiting) (chunk : ℕ) (s : Sig) (old : ℕ) (was : old ≡ row_word q.signals q.words chunk (s.0 / 64)) (early : chunk < q.chunks) (signal : s.0 < q.signals)
    (within : chunk * row_length q.signals + s.0 / 64 < length q.words) where
  abbrev pub added : Waiting
  added = with_word q chunk (s.0 / 64) (bit_or old (2 ^ (s.0 % 64)))

  pub added-bits : ((i : ℕ) → i < 64 → is_set old i ≡ true → s.0 / 64 * 64 + i < q.signals)
      → (i : ℕ) → i < 64 → is_set (bit_or old (2 ^ (s.0 % 64))) i ≡ true → s.0 / 64 * 64 + i < q.signals
  added-bits before i small h =
      elim (or_cases (is_set old i) (is_set (2 ^ (s.0 % 64)) i) (sym (is_set_or old (2 ^ (s.0 % 64)) i) ∙ h)) [
        | inl had ↦ before i small had
        | inr new ↦ subst (λ k. s.0 / 64 * 64 + k < q.signals) (sym (alone-only (s.0 % 64) i new)) (subst (λ n. n < q.signals) (sym (sig-is s)) signal)
      ]

  pub add-waits : Waits added s chunk
  add-waits = record {
    signal = signal;
    early = early;
    set = ap (λ w. is_set w (s.0 % 64)) (word-there q chunk (s.0 / 64) (bit_or old (2 ^ (s.0 % 64))) (row-within q s signal) within)
        ∙ is_set_or old (2 ^ (s.0 % 64)) (s.0 % 64) ∙ or_right (is_set old (s.0 % 64)) (is_set (2 ^ (s.0 % 64)) (s.0 % 64)) (alone-set (s.0 % 64));
  }

  pub add-kept : (t : Sig) (c : ℕ) → Waits q t c → Waits added t c
  add-kept t c h = record {
    signal = h.signal;
    early = h.early;
    set = elim (its-word q chunk (s.0 / 64) (bit_or old (2 ^ (s.0 % 64))) (row-within q s signal) within c (t.0 / 64) (row-within q t h.signal)) [
      | inl (same, row, is) ↦
          let had : is_set old (t.0 % 64) ≡ true =
          ap (λ w. is_set w (t.0 % 64)) (was ∙ sym (ap (λ n. row_word q.signals q.words n (t.0 / 64)) same ∙ ap (row_word q.signals q.words chunk) row)) ∙ h.set in
          ap (λ w. is_set w (t.0 % 64)) is ∙ is_set_or old (2 ^ (s.0 % 64)) (t.0 % 64) ∙ or_left (is_set old (t.0 % 64)) (is_set (2 ^ (s.0 % 64)) (t.0 % 64)) had
      | inr is ↦ ap (λ w. is_set w (t.0 % 64)) is ∙ h.set
    ];
  }

  pub add-only : (t : Sig) (c : ℕ) → Waits added t c → Waits q t c ⊎ ((t ≡ s) × (c ≡ chunk))
  add-only t c h =
      elim (its-word q chunk (s.0 / 64) (bit_or old (2 ^ (s.0 % 64))) (row-within q s signal) within c (t.0 / 64) (row-within q t h.signal)) [
        | inl (same, row, is) ↦
            elim (or_cases (is_set old (t.0 % 64)) (is_set (2 ^ (s.0 % 64)) (t.0 % 64)) (sym (ap (λ w. is_set w (t.0 % 64)) is ∙ is_set_or old (2 ^ (s.0 % 64)) (t.0 % 64)) ∙ h.set)) [
              | inl had ↦ inl (record {
                signal = h.signal;
                early = h.early;
                set = ap (λ w. is_set w (t.0 % 64)) (ap (λ n. row_word q.signals q.words n (t.0 / 64)) same ∙ ap (row_word q.signals q.words chunk) row ∙ sym was) ∙ had;
              })
              | inr new ↦ inr (same-sig t s row (alone-only (s.0 % 64) (t.0 % 64) new), same)
            ]
        | inr is ↦ inl (record { signal = h.signal; early = h.early; set = ap (λ w. is_set w (t.0 % 64)) (sym is) ∙ h.set })
      ]

  pub adds : Adds (s ∷ []) chunk q added
  adds = record {
    signals = refl;
    chunks = refl;
    wait = λ t h. elim (Contains-cases s [] t h) [
      | inl e ↦ subst (λ x. Waits added x chunk) e add-waits
      | inr other ↦ absurd (not_in_nil t other)
    ];
    kept = add-kept;
    only = λ t c h. elim (add-only t c h) [
      | inl before ↦ inl before
      | inr (e, same) ↦ inr (subst (Contains (s ∷ [])) (sym e) (Contains-here s []), same)
    ];
  }

-- first some targets, and then one more
pub adds-more : (targets : List Sig) (s : Sig) (chunk : ℕ) (q x y : Waiting) → Adds targets chunk q x → Adds (s ∷ []) chunk x y → Adds (targets ++ s ∷ []) chunk q y
adds-more targets s chunk q x y first then = record {
  signals = then.signals ∙ first.signals;
  chunks = then.chunks ∙ first.chunks;
  wait = λ t h. elim (Contains-append_cases targets (s ∷ []) t h) [
    | inl early ↦ then.kept t chunk (first.wait t early)
    | inr last ↦ then.wait t last
  ];
  kept = λ t c h. then.kept t c (first.kept t c h);
  only = λ t c h. elim (then.only t c h) [
    | inl before ↦ elim (first.only t c before) [
      | inl at_first ↦ inl at_first
      | inr (among, same) ↦ inr (Contains-append_left targets (s ∷ []) t among, same)
    ]
    | inr (is, same) ↦ inr (Contains-append_right targets (s ∷ []) t is, same)
  ];
}

-- the same without the task of one signal
pub but-more : (targets : List Sig) (but s : Sig) (chunk : ℕ) (q x y : Waiting) → AddsBut targets but chunk q x → (s ≡ but → ⊥) → Adds (s ∷ []) chunk x y → AddsBut (targets ++ s ∷ []) but chunk q y
but-more targets but s chunk q x y first other then = record {
  signals = then.signals ∙ first.signals;
  chunks = then.chunks ∙ first.chunks;
  wait = λ t h apart. elim (Contains-append_cases targets (s ∷ []) t h) [
    | inl early ↦ then.kept t chunk (first.wait t early apart)
    | inr last ↦ then.wait t last
  ];
  kept = λ t c h. then.kept t c (first.kept t c h);
  only = λ t c h. elim (then.only t c h) [
    | inl before ↦ elim (first.only t c before) [
      | inl at_first ↦ inl at_first
      | inr (among, apart, same) ↦ inr (Contains-append_left targets (s ∷ []) t among, apart, same)
    ]
    | inr (is, same) ↦ inr (Contains-append_right targets (s ∷ []) t is, (λ e. other (is-one s t is ∙ e)), same)
  ];
}
  where
    is-one : (x t : Sig) → Contains (x ∷ []) t → x ≡ t
    is-one x t h =
        elim (Contains-cases x [] t h) [
          | inl e ↦ e
          | inr none ↦ absurd (not_in_nil t none)
        ]

pub but-same : (targets : List Sig) (but s : Sig) (chunk : ℕ) (q x : Waiting) → AddsBut targets but chunk q x → s ≡ but → AddsBut (targets ++ s ∷ []) but chunk q x
but-same targets but s chunk q x first same = record {
  signals = first.signals;
  chunks = first.chunks;
  wait = λ t h apart. elim (Contains-append_cases targets (s ∷ []) t h) [
    | inl early ↦ first.wait t early apart
    | inr last ↦ elim (Contains-cases s [] t last) [
      | inl e ↦ absurd (apart (sym e ∙ same))
      | inr none ↦ absurd (not_in_nil t none)
    ]
  ];
  kept = first.kept;
  only = λ t c h. elim (first.only t c h) [
    | inl before ↦ inl before
    | inr (among, apart, early) ↦ inr (Contains-append_left targets (s ∷ []) t among, apart, early)
  ];
}

-- one less
module _ (q : Waiting) (chunk : ℕ) (s : Sig) (old : ℕ) (was : old ≡ row_word q.signals q.words chunk (s.0 / 64)) (waits : Waits q s chunk)
    (within : chunk * row_length q.signals + s.0 / 64 < length q.words) where
  abbrev pub left : ℕ
  left = bit_and old (bit_not w64 (2 ^ (s.0 % 64)))

  abbrev pub removed : Waiting
  removed = with_word q chunk (s.0 / 64) left

  alone-small : 2 ^ (s.0 % 64) < 2 ^ 64
  alone-small = pow-lt (let h : s.0 % 64 < 64 = omega arith in h)

  has-left : (i : ℕ) → i < 64 → is_set left i ≡ (is_set old i && not (is_set (2 ^ (s.0 % 64)) i))
  has-left i small = is_set_and old (bit_not w64 (2 ^ (s.0 % 64))) i ∙ ap (λ b. is_set old i && b) (is_set_not (2 ^ (s.0 % 64)) i alone-small small)

  pub left-old : (i : ℕ) → is_set left i ≡ true → is_set old i ≡ true
  left-old i h = (and_parts (is_set old i) (is_set (bit_not w64 (2 ^ (s.0 % 64))) i) (sym (is_set_and old (bit_not w64 (2 ^ (s.0 % 64))) i) ∙ h)).0

  pub remove-kept : (t : Sig) (c : ℕ) → Waits q t c → Waits removed t c ⊎ ((t ≡ s) × (c ≡ chunk))
  remove-kept t c h =
      elim (its-word q chunk (s.0 / 64) left (row-within q s waits.signal) within c (t.0 / 64) (row-within q t h.signal)) [
        | inl (same, row, is) ↦
            let had : is_set old (t.0 % 64) ≡ true =
            ap (λ w. is_set w (t.0 % 64)) (was ∙ sym (ap (λ n. row_word q.signals q.words n (t.0 / 64)) same ∙ ap (row_word q.signals q.words chunk) row)) ∙ h.set in
            elim (cases_Bool (is_set (2 ^ (s.0 % 64)) (t.0 % 64))) [
              | inl taken ↦ inr (same-sig t s row (alone-only (s.0 % 64) (t.0 % 64) taken), same)
              | inr other ↦ inl (record {
                signal = h.signal;
                early = h.early;
                set = ap (λ w. is_set w (t.0 % 64)) is ∙ has-left (t.0 % 64) (omega arith) ∙ ap (λ b. b && not (is_set (2 ^ (s.0 % 64)) (t.0 % 64))) had ∙ ap not other;
              })
            ]
        | inr is ↦ inl (record { signal = h.signal; early = h.early; set = ap (λ w. is_set w (t.0 % 64)) is ∙ h.set })
      ]

  pub remove-only : (t : Sig) (c : ℕ) → Waits removed t c → Waits q t c
  remove-only t c h = record {
    signal = h.signal;
    early = h.early;
    set = elim (its-word q chunk (s.0 / 64) left (row-within q s waits.signal) within c (t.0 / 64) (row-within q t h.signal)) [
      | inl (same, row, is) ↦
          ap (λ w. is_set w (t.0 % 64)) (ap (λ n. row_word q.signals q.words n (t.0 / 64)) same ∙ ap (row_word q.signals q.words chunk) row ∙ sym was)
          ∙ left-old (t.0 % 64) (sym (ap (λ w. is_set w (t.0 % 64)) is) ∙ h.set)
      | inr is ↦ ap (λ w. is_set w (t.0 % 64)) (sym is) ∙ h.set
    ];
  }

  left-gone : is_set left (s.0 % 64) ≡ false
  left-gone = has-left (s.0 % 64) (omega arith) ∙ ap (λ b. is_set old (s.0 % 64) && not b) (alone-set (s.0 % 64)) ∙ and-false (is_set old (s.0 % 64)) where
    and-false : (b : Bool) → (b && false) ≡ false
    and-false true = refl
    and-false false = refl

  pub remove-gone : Waits removed s chunk → ⊥
  remove-gone h = true≢false (sym h.set ∙ ap (λ w. is_set w (s.0 % 64)) (word-there q chunk (s.0 / 64) left (row-within q s waits.signal) within) ∙ left-gone)

  pub remove-fewer : waiting_measure removed < waiting_measure q
  remove-fewer =
      let was_set : is_set old (s.0 % 64) ≡ true = ap (λ w. is_set w (s.0 % 64)) was ∙ waits.set in
      let no_more : left ≤ old = and_le_l old (bit_not w64 (2 ^ (s.0 % 64))) in
      let other : left ≡ old → ⊥ = λ e. true≢false (sym was_set ∙ ap (λ w. is_set w (s.0 % 64)) (sym e) ∙ left-gone) in
      let sums : sum (set q.words (chunk * row_length q.signals + s.0 / 64) left) + get_or q.words (chunk * row_length q.signals + s.0 / 64) 0 ≡ sum q.words + left =
      sum_by-set (λ n. n) q.words (chunk * row_length q.signals + s.0 / 64) left 0 within in
      omega (arith, sums, was, no_more, less left old no_more other)
    where
      less : (a b : ℕ) → a ≤ b → (a ≡ b → ⊥) → a < b
      less a b h other =
          elim (cases_eq a b) [
            | inl e ↦ absurd (other e)
            | inr _ ↦ elim (cases_lt a b) [
              | inl l ↦ l
              | inr g ↦ absurd (other (omega (arith, h, g)))
            ]
          ]

-- where no word of a chunk has a bit, none waits there
pub idle-where : (q : Waiting) (chunk : ℕ) → ((r : ℕ) → r < row_length q.signals → row_word q.signals q.words chunk r ≡ 0) → IsIdle q chunk
idle-where q chunk none s h =
    true≢false (sym h.set ∙ ap (λ w. is_set w (s.0 % 64)) (none (s.0 / 64) (row-within q s h.signal)) ∙ is_set_zero (s.0 % 64))

-- ---- the next signal of a chunk

module _ (q : Waiting) (chunk : ℕ) where
  -- a word that is 0 has no task
  pub none-in : (s : Sig) → row_word q.signals q.words chunk (s.0 / 64) ≡ 0 → Waits q s chunk → ⊥
  none-in s none h = true≢false (sym h.set ∙ ap (λ w. is_set w (s.0 % 64)) none ∙ is_set_zero (s.0 % 64))

  module _ (from row bits : ℕ) (first : IsFirstRow q chunk (from / 64) row)
      (all : (s : Sig) → from ≤ s.0 → s.0 / 64 ≡ row → Waits q s chunk → is_set bits (s.0 % 64) ≡ true) where
    -- none of the words before waits
    before-row : (s : Sig) → from ≤ s.0 → s.0 / 64 < row → Waits q s chunk → ⊥
    before-row s late early = none-in s (first.first (s.0 / 64) (omega (arith, late)) early)

    pub next-here : (s : Sig) → ((i : ℕ) → i < 64 → is_set bits i ≡ true → from ≤ row * 64 + i) → Waits q s chunk → s.0 / 64 ≡ row → is_set bits (s.0 % 64) ≡ true
        → ((i : ℕ) → i < s.0 % 64 → is_set bits i ≡ false) → IsNextFrom q chunk from s
    next-here s late waits at set lowest = record {
      waits = waits;
      late = let h : from ≤ row * 64 + s.0 % 64 = late (s.0 % 64) (omega arith) set in omega (arith, h, at);
      least = λ t from_on below h. elim (cases_eq (t.0 / 64) row) [
        | inl same ↦ true≢false (sym (all t from_on same h) ∙ lowest (t.0 % 64) (omega (arith, at, same, below)))
        | inr other ↦ before-row t from_on (omega (arith, at, other, below)) h
      ];
    }

    module _ (none : bits ≡ 0) where
      -- nor does one of this word
      past-row : (s : Sig) → from ≤ s.0 → s.0 / 64 ≤ row → Waits q s chunk → ⊥
      past-row s late within h =
          elim (cases_eq (s.0 / 64) row) [
            | inl same ↦ true≢false (sym (all s late same h) ∙ ap (λ w. is_set w (s.0 % 64)) none ∙ is_set_zero (s.0 % 64))
            | inr other ↦ before-row s late (omega (arith, within, other)) h
          ]

      pub next-later : (later : ℕ) (s : Sig) → IsFirstRow q chunk (row + 1) later → Waits q s chunk → s.0 / 64 ≡ later
          → ((i : ℕ) → i < s.0 % 64 → is_set (row_word q.signals q.words chunk later) i ≡ false) → IsNextFrom q chunk from s
      next-later later s next waits at lowest = record {
        waits = waits;
        late = omega (arith, at, next.late, first.late);
        least = λ t from_on below h. elim (cases_eq (t.0 / 64) later) [
          | inl same ↦ true≢false (sym (ap (λ r. is_set (row_word q.signals q.words chunk r) (t.0 % 64)) (sym same) ∙ h.set) ∙ lowest (t.0 % 64) (omega (arith, at, same, below)))
          | inr other ↦ elim (cases_lt row (t.0 / 64)) [
            | inl above ↦ none-in t (next.first (t.0 / 64) (omega (arith, above)) (omega (arith, at, other, below))) h
            | inr within ↦ past-row t from_on within h
          ]
        ];
      }

      pub none-later : ((r : ℕ) → row + 1 ≤ r → r < row_length q.signals → row_word q.signals q.words chunk r ≡ 0) → (s : Sig) → from ≤ s.0 → Waits q s chunk → ⊥
      none-later zeros s late h =
          elim (cases_lt row (s.0 / 64)) [
            | inl above ↦ none-in s (zeros (s.0 / 64) (omega (arith, above)) (row-within q s h.signal)) h
            | inr within ↦ past-row s late within h
          ]

-- the bits of a word from a signal on
pub from-bits : (word k i : ℕ) → is_set (bit_and word (18446744073709551615 * 2 ^ k % 2 ^ 64)) i ≡ true → is_set word i ≡ true
from-bits word k i h = (and_parts (is_set word i) (is_set (18446744073709551615 * 2 ^ k % 2 ^ 64) i) (sym (is_set_and word (18446744073709551615 * 2 ^ k % 2 ^ 64) i) ∙ h)).0

pub from-late : (word k i : ℕ) → i < 64 → is_set (bit_and word (18446744073709551615 * 2 ^ k % 2 ^ 64)) i ≡ true → k ≤ i
from-late word k i small h =
    elim (cases_lt i k) [
      | inl low ↦ absurd (true≢false (sym ((and_parts (is_set word i) (is_set (18446744073709551615 * 2 ^ k % 2 ^ 64) i) (sym (is_set_and word (18446744073709551615 * 2 ^ k % 2 ^ 64) i) ∙ h)).1)
          ∙ is_set_shl_low 18446744073709551615 k i small low))
      | inr high ↦ high
    ]

pub from-all : (word k i : ℕ) → i < 64 → k ≤ i → is_set word i ≡ true → is_set (bit_and word (18446744073709551615 * 2 ^ k % 2 ^ 64)) i ≡ true
from-all word k i small high h =
    is_set_and word (18446744073709551615 * 2 ^ k % 2 ^ 64) i
    ∙ and_from (is_set word i) (is_set (18446744073709551615 * 2 ^ k % 2 ^ 64) i) h (is_set_shl_high 18446744073709551615 k i small high ∙ all-set (i - k) (omega (arith, small)))

-- ---- the lowest and the highest bit of a word that is not 0

positive : (n : ℕ) → (n ≡ 0 → ⊥) → 0 < n
positive n some =
    elim (cases_lt 0 n) [
      | inl h ↦ h
      | inr h ↦ absurd (some (omega (arith, h)))
    ]

pub lowest-set : (n : ℕ) → (n ≡ 0 → ⊥) → n < 2 ^ 64 → is_set n (trailing_zeros w64 n) ≡ true
unfolding is_set
lowest-set n some small = ap (λ b. eqb b 1) (bit_at-trailing_zeros w64 n (positive n some) small).1

pub lowest-first : (n i : ℕ) → (n ≡ 0 → ⊥) → n < 2 ^ 64 → i < trailing_zeros w64 n → is_set n i ≡ false
unfolding is_set
lowest-first n i some small below = ap (λ b. eqb b 1) ((bit_at-trailing_zeros w64 n (positive n some) small).2 i below)

top-bit : (n j : ℕ) → 2 ^ j ≤ n → n < 2 ^ suc j → is_set n j ≡ true
unfolding is_set
top-bit n j low high =
    let parts : 1 * 2 ^ j + (n - 2 ^ j) ≡ n = omega (arith, low) in
    let small : n - 2 ^ j < 2 ^ j = omega (arith, low, high, pow-suc 2 j) in
    let none : j - j ≡ 0 = omega arith in
    ap (λ b. eqb b 1) (sym (ap (λ m. bit_at m j) parts) ∙ bit_at_cat_high 1 j (n - 2 ^ j) j small (omega arith) ∙ ap (bit_at 1) none ∙ bit_at-pow_same 0)

pub highest-set : (n : ℕ) → (n ≡ 0 → ⊥) → n < 2 ^ 64 → is_set n (63 - leading_zeros w64 n) ≡ true
highest-set n some small =
    let top = leading_top 64 n (positive n some) small in
    let place : 63 - leading_zeros w64 n ≡ top.0 = omega (arith, top.1) in
    ap (is_set n) place ∙ top-bit n top.0 top.2 top.3

-- ---- the marks of words

-- where the word has a mark, it has a task, and is one of the chunk
pub marked : (signals : ℕ) (words : List ℕ) (chunk r : ℕ) → row_has_task signals words chunk r ≡ true → (r < row_length signals) × (row_word signals words chunk r ≡ 0 → ⊥)
marked signals words chunk r h =
    let both = and_parts (ltb r (row_length signals)) (not (eqb (row_word signals words chunk r) 0)) h in (
      ltb-true r (row_length signals) both.0,
      eqb-false (row_word signals words chunk r) 0 (not-true (eqb (row_word signals words chunk r) 0) both.1),
    )

-- where it has none, the word is 0
pub unmarked : (signals : ℕ) (words : List ℕ) (chunk r : ℕ) → r < row_length signals → row_has_task signals words chunk r ≡ false → row_word signals words chunk r ≡ 0
unmarked signals words chunk r row h =
    eqb-true (row_word signals words chunk r) 0 (not-false (eqb (row_word signals words chunk r) 0)
    (sym (ap (λ b. b && not (eqb (row_word signals words chunk r) 0)) (lt-ltb r (row_length signals) row)) ∙ h))

-- the marks of a group of words, without those that are masked out
module _ (q : Waiting) (chunk g marks mask : ℕ) (is : (i : ℕ) → i < 64 → is_set marks i ≡ row_has_task q.signals q.words chunk (g * 64 + i)) where
  pub masked : (i : ℕ) → i < 64 → is_set (bit_and marks mask) i ≡ true → (g * 64 + i < row_length q.signals) × (row_word q.signals q.words chunk (g * 64 + i) ≡ 0 → ⊥)
  masked i small h =
      marked q.signals q.words chunk (g * 64 + i) (sym (is i small) ∙ (and_parts (is_set marks i) (is_set mask i) (sym (is_set_and marks mask i) ∙ h)).0)

  module _ (from low : ℕ) (fits : low < 2 ^ 64) (below : (i : ℕ) → i < 64 → is_set low i ≡ ltb i (from - g * 64)) (ahead : mask ≡ bit_not w64 low) where
    ahead-set : (i : ℕ) → i < 64 → is_set mask i ≡ not (ltb i (from - g * 64))
    ahead-set i small = ap (λ n. is_set n i) ahead ∙ is_set_not low i fits small ∙ ap not (below i small)

    -- a word whose mark is not set is 0
    pub ahead-none : (r : ℕ) → from ≤ r → g * 64 ≤ r → r < g * 64 + 64 → r < row_length q.signals → is_set (bit_and marks mask) (r - g * 64) ≡ false → row_word q.signals q.words chunk r ≡ 0
    ahead-none r late first last row h =
        let small : r - g * 64 < 64 = omega (arith, first, last) in
        let place : g * 64 + (r - g * 64) ≡ r = omega (arith, first) in
        let kept : is_set mask (r - g * 64) ≡ true = ahead-set (r - g * 64) small ∙ ap not (le-ltb (r - g * 64) (from - g * 64) (omega (arith, late))) in
        unmarked q.signals q.words chunk r row
        (ap (row_has_task q.signals q.words chunk) (sym place) ∙ sym (is (r - g * 64) small) ∙ and-false (is_set marks (r - g * 64)) (is_set mask (r - g * 64)) kept (sym (is_set_and marks mask (r - g * 64)) ∙ h))
      where
        and-false : (a b : Bool) → b ≡ true → (a && b) ≡ false → a ≡ false
        and-false true b e h = absurd (true≢false (sym e ∙ h))
        and-false false b e h = refl

    pub first-marked : (i : ℕ) → ((r : ℕ) → from ≤ r → r < g * 64 → r < row_length q.signals → row_word q.signals q.words chunk r ≡ 0)
        → i < 64 → is_set (bit_and marks mask) i ≡ true → ((k : ℕ) → k < i → is_set (bit_and marks mask) k ≡ false) → IsFirstRow q chunk from (g * 64 + i)
    first-marked i before small h lowest =
        let there = masked i small h in
        let high : from - g * 64 ≤ i =
        ltb-false i (from - g * 64) (not-true (ltb i (from - g * 64)) (sym (ahead-set i small) ∙ (and_parts (is_set marks i) (is_set mask i) (sym (is_set_and marks mask i) ∙ h)).1)) in
        record {
          late = omega (arith, high);
          within = there.0;
          some = there.1;
          first = λ r late early. elim (cases_lt r (g * 64)) [
            | inl earlier ↦ before r late earlier (omega (arith, early, there.0))
            | inr here ↦ ahead-none r late here (omega (arith, early, small)) (omega (arith, early, there.0)) (lowest (r - g * 64) (omega (arith, early, here)))
          ];
        }

    pub none-marked : ((r : ℕ) → from ≤ r → r < g * 64 → r < row_length q.signals → row_word q.signals q.words chunk r ≡ 0) → bit_and marks mask ≡ 0
        → (r : ℕ) → from ≤ r → r < (g + 1) * 64 → r < row_length q.signals → row_word q.signals q.words chunk r ≡ 0
    none-marked before none r late early row =
        elim (cases_lt r (g * 64)) [
          | inl earlier ↦ before r late earlier row
          | inr here ↦ ahead-none r late here (omega (arith, early)) row (ap (λ w. is_set w (r - g * 64)) none ∙ is_set_zero (r - g * 64))
        ]

-- ---- what is kept

-- where word i of a chunk lies, if each has so many
times-within : (chunk chunks width i : ℕ) → chunk < chunks → i < width → chunk * width + i < chunks * width
times-within chunk chunks width i early row = subst (λ n. chunk * width + i < n) (swap width chunks) (mul-add-lt chunk width i chunks early row) where
  swap : (a b : ℕ) → a * b ≡ b * a
  swap a b = grind arith

module _ (q : Waiting) (marks : List ℕ) (kept : IsKept q.signals q.chunks q.words marks) (chunk r word : ℕ) (early : chunk < q.chunks) (row : r < row_length q.signals) where
  place-within : chunk * row_length q.signals + r < length q.words
  place-within = subst (λ n. chunk * row_length q.signals + r < n) (sym kept.size) (times-within chunk q.chunks (row_length q.signals) r early row)

  group : r / 64 < mark_length q.signals
  group = omega (arith, row)

  pub mark-within : chunk * mark_length q.signals + r / 64 < length marks
  mark-within = subst (λ n. chunk * mark_length q.signals + r / 64 < n) (sym kept.marks_size) (times-within chunk q.chunks (mark_length q.signals) (r / 64) early group)

  row-is : r / 64 * 64 + r % 64 ≡ r
  row-is = div-add-mod' r 64

  abbrev changed : List ℕ
  changed = set q.words (chunk * row_length q.signals + r) word

  its-task : row_has_task q.signals changed chunk r ≡ not (eqb word 0)
  its-task =
      ap (λ w. ltb r (row_length q.signals) && not (eqb w 0)) (word-there q chunk r word row place-within) ∙ ap (λ b. b && not (eqb word 0)) (lt-ltb r (row_length q.signals) row)

  other-task : (c k : ℕ) → ((c ≡ chunk) × (k ≡ r) → ⊥) → row_has_task q.signals changed c k ≡ row_has_task q.signals q.words c k
  other-task c k apart =
      elim (cases_lt k (row_length q.signals)) [
        | inl there ↦ ap (λ w. ltb k (row_length q.signals) && not (eqb w 0)) (word-elsewhere q chunk r word row place-within c k there apart)
        | inr past ↦
            ap (λ b. b && not (eqb (row_word q.signals changed c k) 0)) (le-ltb k (row_length q.signals) past)
            ∙ sym (ap (λ b. b && not (eqb (row_word q.signals q.words c k) 0)) (le-ltb k (row_length q.signals) past))
      ]

  its-mark : is_set (mark_word q.signals marks chunk (r / 64)) (r % 64) ≡ not (eqb (row_word q.signals q.words chunk r) 0)
  its-mark =
      kept.marked chunk (r / 64) (r % 64) early group (omega arith) ∙ ap (row_has_task q.signals q.words chunk) row-is
      ∙ ap (λ b. b && not (eqb (row_word q.signals q.words chunk r) 0)) (lt-ltb r (row_length q.signals) row)

  module _ (new : (i : ℕ) → i < 64 → is_set word i ≡ true → r * 64 + i < q.signals) where
    -- another word stands there, its mark says whether it has a task, and the other marks are the same
    marks-kept : (now : List ℕ) → length now ≡ length marks
        → ((c g i : ℕ) → g < mark_length q.signals → ((c ≡ chunk) × (g * 64 + i ≡ r) → ⊥) → is_set (mark_word q.signals now c g) i ≡ is_set (mark_word q.signals marks c g) i)
        → is_set (mark_word q.signals now chunk (r / 64)) (r % 64) ≡ not (eqb word 0) → IsKept q.signals q.chunks changed now
    marks-kept now size others its = record {
      few_signals = kept.few_signals;
      few_chunks = kept.few_chunks;
      size = length-set q.words (chunk * row_length q.signals + r) word ∙ kept.size;
      marks_size = size ∙ kept.marks_size;
      within = λ c k i hc hk hi h. elim (its-word q chunk r word row place-within c k hk) [
        | inl (same, same_row, is) ↦ subst (λ n. n * 64 + i < q.signals) (sym same_row) (new i hi (ap (λ w. is_set w i) (sym is) ∙ h))
        | inr is ↦ kept.within c k i hc hk hi (ap (λ w. is_set w i) (sym is) ∙ h)
      ];
      marked = λ c g i hc hg hi. elim (cases_place c g i) [
        | inl (same, place) ↦
            let same_group : g ≡ r / 64 = omega (arith, place, hi) in
            let bit : i ≡ r % 64 = omega (arith, place, hi) in
            ap (λ n. is_set (mark_word q.signals now n g) i) same ∙ ap (λ n. is_set (mark_word q.signals now chunk n) i) same_group
            ∙ ap (is_set (mark_word q.signals now chunk (r / 64))) bit ∙ its
            ∙ sym (ap (λ n. row_has_task q.signals changed n (g * 64 + i)) same ∙ ap (row_has_task q.signals changed chunk) place ∙ its-task)
        | inr apart ↦ others c g i hg apart ∙ kept.marked c g i hc hg hi ∙ sym (other-task c (g * 64 + i) apart)
      ];
    }
      where
        cases_place : (c g i : ℕ) → ((c ≡ chunk) × (g * 64 + i ≡ r)) ⊎ ((c ≡ chunk) × (g * 64 + i ≡ r) → ⊥)
        cases_place c g i =
            elim (cases_eq c chunk) [
              | inl same ↦ elim (cases_eq (g * 64 + i) r) [
                | inl place ↦ inl (same, place)
                | inr apart ↦ inr (λ e. apart e.1)
              ]
              | inr apart ↦ inr (λ e. apart e.0)
            ]

    module _ (place old : ℕ) (at : place ≡ chunk * row_length q.signals + r) (was : old ≡ get_or q.words place old) where
      old-is : old ≡ row_word q.signals q.words chunk r
      old-is = was ∙ ap (λ n. get_or q.words n old) at ∙ get_or_default q.words (chunk * row_length q.signals + r) old 0 place-within

      -- the mark stays where it was right
      pub same-kept : not (beq (eqb old 0) (eqb word 0)) ≡ false → IsKept q.signals q.chunks (set q.words place word) marks
      same-kept same =
          subst (λ n. IsKept q.signals q.chunks (set q.words n word) marks) (sym at)
          (marks-kept marks refl (λ c g i hg apart. refl) (its-mark ∙ ap (λ n. not (eqb n 0)) (sym old-is) ∙ alike (eqb old 0) (eqb word 0) same))
        where
          alike : (a b : Bool) → not (beq a b) ≡ false → not a ≡ not b
          alike true true h = refl
          alike true false h = cc
          alike false true h = cc
          alike false false h = refl

      -- it is flipped where it was not
      module _ (count mark : ℕ) (counted : count ≡ mark_length q.signals) (stood : mark ≡ get_or marks (chunk * count + r / 64) mark) (other : not (beq (eqb old 0) (eqb word 0)) ≡ true) where
        abbrev bit : ℕ
        bit = 2 ^ (r % 64)

        abbrev flipped : List ℕ
        flipped = set marks (chunk * mark_length q.signals + r / 64) (bit_xor mark bit)

        mark-is : mark ≡ mark_word q.signals marks chunk (r / 64)
        mark-is = stood ∙ ap (λ n. get_or marks (chunk * n + r / 64) mark) counted ∙ get_or_default marks (chunk * mark_length q.signals + r / 64) mark 0 mark-within

        there : mark_word q.signals flipped chunk (r / 64) ≡ bit_xor mark bit
        there = get_or-set_same marks (chunk * mark_length q.signals + r / 64) (bit_xor mark bit) 0 mark-within

        others : (c g i : ℕ) → g < mark_length q.signals → ((c ≡ chunk) × (g * 64 + i ≡ r) → ⊥) → is_set (mark_word q.signals flipped c g) i ≡ is_set (mark_word q.signals marks c g) i
        others c g i hg apart =
            elim (cases_eq (c * mark_length q.signals + g) (chunk * mark_length q.signals + r / 64)) [
              | inl same ↦
                  let spot = same_from_place c g chunk (r / 64) (mark_length q.signals) hg group same in
                  let elsewhere : i ≡ r % 64 → ⊥ = λ e. apart (spot.0, ap (λ n. n * 64 + i) spot.1 ∙ ap (λ n. r / 64 * 64 + n) e ∙ row-is) in
                  ap (λ n. is_set (get_or flipped n 0) i) same ∙ ap (λ w. is_set w i) there ∙ is_set_xor mark bit i ∙ ap (plus (is_set mark i)) (not-alone elsewhere) ∙ plus-false (is_set mark i)
                  ∙ ap (λ w. is_set w i) mark-is ∙ ap (λ n. is_set (get_or marks n 0) i) (sym same)
              | inr elsewhere ↦
                  ap (λ w. is_set w i) (get_or-set_other marks (chunk * mark_length q.signals + r / 64) (c * mark_length q.signals + g) (bit_xor mark bit) 0 elsewhere)
            ]
          where
            not-alone : (i ≡ r % 64 → ⊥) → is_set bit i ≡ false
            not-alone apart =
                elim (cases_Bool (is_set bit i)) [
                  | inl is ↦ absurd (apart (alone-only (r % 64) i is))
                  | inr none ↦ none
                ]

            plus-false : (b : Bool) → plus b false ≡ b
            plus-false true = refl
            plus-false false = refl

        pub flip-kept : (mask : ℕ) → mask ≡ 2 ^ (r % 64) → IsKept q.signals q.chunks (set q.words place word) (set marks (chunk * count + r / 64) (bit_xor mark mask))
        flip-kept mask alone =
            subst (λ n. IsKept q.signals q.chunks (set q.words n word) (set marks (chunk * count + r / 64) (bit_xor mark mask))) (sym at)
            (subst (λ n. IsKept q.signals q.chunks changed (set marks (chunk * n + r / 64) (bit_xor mark mask))) (sym counted)
            (subst (λ b. IsKept q.signals q.chunks changed (set marks (chunk * mark_length q.signals + r / 64) (bit_xor mark b))) (sym alone)
            (marks-kept flipped (length-set marks (chunk * mark_length q.signals + r / 64) (bit_xor mark bit)) others
            (ap (λ w. is_set w (r % 64)) there ∙ is_set_xor mark bit (r % 64) ∙ ap (plus (is_set mark (r % 64))) (alone-set (r % 64))
            ∙ ap (λ b. plus b true) (ap (λ w. is_set w (r % 64)) mark-is ∙ its-mark ∙ ap (λ n. not (eqb n 0)) (sym old-is)) ∙ turned (eqb old 0) (eqb word 0) other))))
          where
            turned : (a b : Bool) → not (beq a b) ≡ true → plus (not a) true ≡ not b
            turned true true h = cc
            turned true false h = refl
            turned false true h = refl
            turned false false h = cc

zeros : (n at : ℕ) → get_or {A = ℕ} (replicate n 0) at 0 ≡ 0
zeros n at =
    elim (cases_lt at n) [
      | inl h ↦ get_or-replicate n at 0 0 h
      | inr h ↦ get_or-eq_default (replicate n 0) 0 (subst (λ m. m ≤ at) (sym (length-replicate n 0)) h)
    ]

pub zero-word : (signals chunks c k : ℕ) → row_word signals (replicate (chunks * row_length signals) 0) c k ≡ 0
zero-word signals chunks c k = zeros (chunks * row_length signals) (c * row_length signals + k)

pub none-kept : (signals chunks : ℕ) → signals ≤ max_signals → chunks ≤ 128 → IsKept signals chunks (replicate (chunks * row_length signals) 0) (replicate (chunks * mark_length signals) 0)
none-kept signals chunks few_signals few_chunks = record {
  few_signals = few_signals;
  few_chunks = few_chunks;
  size = length-replicate (chunks * row_length signals) 0;
  marks_size = length-replicate (chunks * mark_length signals) 0;
  within = λ c k i hc hk hi h. absurd (true≢false (sym h ∙ ap (λ w. is_set w i) (zero-word signals chunks c k) ∙ is_set_zero i));
  marked = λ c g i hc hg hi.
      ap (λ w. is_set w i) (zeros (chunks * mark_length signals) (c * mark_length signals + g)) ∙ is_set_zero i
      ∙ sym (ap (λ w. ltb (g * 64 + i) (row_length signals) && not (eqb w 0)) (zero-word signals chunks c (g * 64 + i)) ∙ and-none (ltb (g * 64 + i) (row_length signals)));
}
  where
    and-none : (b : Bool) → (b && false) ≡ false
    and-none true = refl
    and-none false = refl
