-- The literals of a row of a dump, chunk after chunk, and of a dump, row after row.
use Rattle.std.proofs.Common.{ℕ, ◌≡◌, ◌+◌, ◌*◌, ◌/◌, ◌<◌, ◌≤◌, ◌&&◌, ◌||◌, Bool, true, false, eqb, ltb, min, List, length, get_or, take, map, arith, inl, inr, sym, ap, subst, refl, Some, slice_get, ◌∙◌}
use Rattle.std.specs.List.{slice_range}
use Rattle.std.specs.Prelude.{option_map, unwrap_or}
use Rattle.std.proofs.lemmas.Bool.{cases_eq, cases_lt, cases_order, lt-ltb, le-ltb, eq-eqb, ne_eqb, ltb-false, and_right}
use Rattle.std.proofs.lemmas.List.Folds.{list_any_more}
use Rattle.std.proofs.lemmas.Option.{slice_get-get_or}
use Rattle.sr_model.specs.declared.cells.Sig.{Sig}
use Rattle.sr_model.specs.declared.cells.Lit.{Lit}
use Rattle.sr_model.specs.Dump.{Row, dump_has, is_bit}
use Rattle.dump_reader.specs.declared.dump.Tri.{Tri}
use Rattle.dump_reader.specs.Recording.{tri_bit}
use Rattle.unroll.specs.declared.words.PinWord.{PinWord}
use Rattle.unroll.specs.Bits.{is_set, union_of, word_for}
use Rattle.unroll.specs.Problem.{Unrolling, signals_in, chunks_in, block_at, block_of, bit_of}
use Rattle.unroll.proofs.lemmas.Words.{union_bits}
use Rattle.unroll.proofs.lemmas.Laws.{cycle-chunk}
use Rattle.known_planes.specs.Planes.{PlaneSet, words_at, with_words, has, IsOf}
use Rattle.known_planes.proofs.DumpWords.{no-bit-past, chunk-cell}
use Rattle.known_planes.proofs.Members.{has-there, has-elsewhere}

-- the planes have the old literals and those of a row's first chunks
abbrev pub HasChunks : Unrolling → PlaneSet → Sig → List Tri → ℕ → PlaneSet → Type 0
HasChunks u old s cells chunk planes =
    (l : Lit) → has u planes l ≡ (has u old l || (eqb s.0 l.cell.sig.0 && ltb (l.cell.cycle / 64) chunk && is_bit (slice_get (map tri_bit cells) l.cell.cycle) l.bit))

distribute : (e o w : Bool) → (e && (o || w)) ≡ ((e && o) || (e && w))
distribute true o w = refl
distribute false o w = refl

and_early : (e b : Bool) → (e ≡ false → b ≡ false) → (e && b) ≡ b
and_early true b late = refl
and_early false b late = sym (late refl)

or-none : (b : Bool) → (b || false) ≡ b
or-none true = refl
or-none false = refl

-- a chunk more
module _ (u : Unrolling) (old planes : PlaneSet) (s : Sig) (chunk : ℕ) (cells : List Tri) (start end : ℕ) (words : PinWord)
    (of : IsOf u planes) (h : s.0 < signals_in u) (k : chunk < chunks_in u) (start_is : start ≡ 64 * chunk) (end_is : end ≡ min (length cells) (start + 64)) (size : length cells ≡ u.cycles)
    (says : (bit : Bool) (i : ℕ) → is_set (word_for bit words) i ≡ is_bit (slice_get (map tri_bit (slice_range cells start end)) i) bit)
    (before : HasChunks u old s cells chunk planes) where
  abbrev new : PlaneSet
  new = with_words planes (block_at u s chunk) (union_of (words_at planes (block_at u s chunk)) words)

  abbrev cell-has : Lit → Bool
  cell-has l = is_bit (slice_get (map tri_bit cells) l.cell.cycle) l.bit

  abbrev early : Lit → Bool
  early l = ltb l.cell.cycle u.cycles

  none-late : (l : Lit) → early l ≡ false → cell-has l ≡ false
  none-late l late = no-bit-past cells l.cell.cycle l.bit (omega (arith, size, ltb-false l.cell.cycle u.cycles late))

  in-chunk : (l : Lit) → l.cell.cycle / 64 ≡ chunk → is_set (word_for l.bit words) (bit_of l.cell) ≡ cell-has l
  in-chunk l same =
      says l.bit (bit_of l.cell) ∙ ap (λ x. is_bit x l.bit) (chunk-cell cells start end (bit_of l.cell) end_is (omega arith))
      ∙ ap (λ n. is_bit (slice_get (map tri_bit cells) n) l.bit) (omega (arith, start_is, same))

  -- a literal of the row in the chunk
  here : (l : Lit) → s.0 ≡ l.cell.sig.0 → l.cell.cycle / 64 ≡ chunk → has u new l ≡ (has u planes l || cell-has l)
  here l sig same =
      let one : block_at u s chunk ≡ block_of u l.cell = ap (λ n. record { 0 = n * chunks_in u + chunk }) sig ∙ ap (λ n. record { 0 = l.cell.sig.0 * chunks_in u + n }) (sym same) in
      has-there u planes s chunk (union_of (words_at planes (block_at u s chunk)) words) of h k l sig (sym same)
      ∙ ap (λ t. early l && t) (union_bits (words_at planes (block_at u s chunk)) words l.bit (bit_of l.cell))
      ∙ distribute (early l) (is_set (word_for l.bit (words_at planes (block_at u s chunk))) (bit_of l.cell)) (is_set (word_for l.bit words) (bit_of l.cell))
      ∙ ap (λ b. (early l && is_set (word_for l.bit (words_at planes b)) (bit_of l.cell)) || (early l && is_set (word_for l.bit words) (bit_of l.cell))) one
      ∙ ap (λ t. has u planes l || (early l && t)) (in-chunk l same)
      ∙ ap (λ t. has u planes l || t) (and_early (early l) (cell-has l) (none-late l))

  row-has : HasChunks u old s cells (chunk + 1) new
  row-has l =
      elim (cases_eq s.0 l.cell.sig.0) [
        | inl sig ↦
            elim (cases_order (l.cell.cycle / 64) chunk) [
              | inl same ↦
                  here l sig same ∙ ap (λ t. t || cell-has l) (before l)
                  ∙ ap (λ t. (has u old l || (eqb s.0 l.cell.sig.0 && t && cell-has l)) || cell-has l) (le-ltb (l.cell.cycle / 64) chunk (omega (arith, same)))
                  ∙ ap (λ t. (has u old l || (t && false && cell-has l)) || cell-has l) (eq-eqb s.0 l.cell.sig.0 sig)
                  ∙ ap (λ t. t || cell-has l) (or-none (has u old l))
                  ∙ sym (ap (λ t. has u old l || (t && ltb (l.cell.cycle / 64) (chunk + 1) && cell-has l)) (eq-eqb s.0 l.cell.sig.0 sig)
                  ∙ ap (λ t. has u old l || (t && cell-has l)) (lt-ltb (l.cell.cycle / 64) (chunk + 1) (omega (arith, same))))
              | inr (inl below) ↦
                  has-elsewhere u planes s chunk (union_of (words_at planes (block_at u s chunk)) words) k l (λ a b. omega (arith, b, below)) ∙ before l
                  ∙ ap (λ t. has u old l || (eqb s.0 l.cell.sig.0 && t && cell-has l))
                  (lt-ltb (l.cell.cycle / 64) chunk below ∙ sym (lt-ltb (l.cell.cycle / 64) (chunk + 1) (omega (arith, below))))
              | inr (inr above) ↦
                  has-elsewhere u planes s chunk (union_of (words_at planes (block_at u s chunk)) words) k l (λ a b. omega (arith, b, above)) ∙ before l
                  ∙ ap (λ t. has u old l || (eqb s.0 l.cell.sig.0 && t && cell-has l))
                  (le-ltb (l.cell.cycle / 64) chunk (omega (arith, above)) ∙ sym (le-ltb (l.cell.cycle / 64) (chunk + 1) (omega (arith, above))))
            ]
        | inr other ↦
            has-elsewhere u planes s chunk (union_of (words_at planes (block_at u s chunk)) words) k l (λ a b. other a) ∙ before l
            ∙ ap (λ t. has u old l || (t && ltb (l.cell.cycle / 64) chunk && cell-has l)) (ne_eqb s.0 l.cell.sig.0 other)
            ∙ sym (ap (λ t. has u old l || (t && ltb (l.cell.cycle / 64) (chunk + 1) && cell-has l)) (ne_eqb s.0 l.cell.sig.0 other))
      ]

  pub row-more : (after : PlaneSet) → after ≡ new → HasChunks u old s cells (chunk + 1) after
  row-more after is = subst (HasChunks u old s cells (chunk + 1)) (sym is) row-has

-- no chunk
pub row-none : (u : Unrolling) (old : PlaneSet) (s : Sig) (cells : List Tri) → HasChunks u old s cells 0 old
row-none u old s cells l =
    sym (or-none (has u old l)) ∙ sym (ap (λ t. has u old l || (t && is_bit (slice_get (map tri_bit cells) l.cell.cycle) l.bit)) (and-none (eqb s.0 l.cell.sig.0) ∙ refl))
  where
    and-none : (b : Bool) → (b && ltb (l.cell.cycle / 64) 0) ≡ false
    and-none true = le-ltb (l.cell.cycle / 64) 0 (omega arith)
    and-none false = refl

-- all chunks
pub row-all : (u : Unrolling) (old planes : PlaneSet) (s : Sig) (chunk : ℕ) (cells : List Tri) → chunks_in u ≤ chunk → length cells ≡ u.cycles → HasChunks u old s cells chunk planes
    → (l : Lit) → has u planes l ≡ (has u old l || (eqb s.0 l.cell.sig.0 && is_bit (slice_get (map tri_bit cells) l.cell.cycle) l.bit))
row-all u old planes s chunk cells all size before l =
    before l ∙ elim (cases_lt l.cell.cycle u.cycles) [
      | inl h ↦
          let within : l.cell.cycle / 64 < chunks_in u = cycle-chunk u l.cell.cycle h in
          ap (λ t. has u old l || (eqb s.0 l.cell.sig.0 && t && is_bit (slice_get (map tri_bit cells) l.cell.cycle) l.bit)) (lt-ltb (l.cell.cycle / 64) chunk (omega (arith, within, all)))
          ∙ ap (λ t. has u old l || (t && is_bit (slice_get (map tri_bit cells) l.cell.cycle) l.bit)) (and-true (eqb s.0 l.cell.sig.0))
      | inr h ↦
          let none : is_bit (slice_get (map tri_bit cells) l.cell.cycle) l.bit ≡ false = no-bit-past cells l.cell.cycle l.bit (omega (arith, size, h)) in
          ap (λ t. has u old l || t) (and_right (eqb s.0 l.cell.sig.0 && ltb (l.cell.cycle / 64) chunk) _ none ∙ sym (and_right (eqb s.0 l.cell.sig.0) _ none))
    ]
  where
    and-true : (b : Bool) → (b && true) ≡ b
    and-true true = refl
    and-true false = refl

some-same : {X : Type 0} (d a b : X) → Some a ≡ Some b → a ≡ b
some-same d a b e = ap (λ o. unwrap_or o d) e

-- a row more
pub dump-more : (u : Unrolling) (rows : List Row) (row : ℕ) (planes after : PlaneSet) (s : Sig) (cells : List Tri) → row < length rows
    → option_map (λ (r : Row). r.sig) (slice_get rows row) ≡ Some s → option_map (λ (r : Row). r.bits) (slice_get rows row) ≡ Some (map tri_bit cells)
    → ((l : Lit) → has u planes l ≡ dump_has (take row rows) l)
    → ((l : Lit) → has u after l ≡ (has u planes l || (eqb s.0 l.cell.sig.0 && is_bit (slice_get (map tri_bit cells) l.cell.cycle) l.bit)))
    → (l : Lit) → has u after l ≡ dump_has (take (row + 1) rows) l
dump-more u rows row planes after s cells within sig bits before joins l =
    let d : Row = record { sig = s; bits = map tri_bit cells } in
    let found : slice_get rows row ≡ Some (get_or rows row d) = slice_get-get_or rows row d within in
    let sig_is : (get_or rows row d).sig ≡ s = some-same s (get_or rows row d).sig s (sym (ap (option_map (λ (r : Row). r.sig)) found) ∙ sig) in
    let bits_is : (get_or rows row d).bits ≡ map tri_bit cells = some-same (map tri_bit cells) (get_or rows row d).bits (map tri_bit cells) (sym (ap (option_map (λ (r : Row). r.bits)) found) ∙ bits) in
    joins l ∙ ap (λ t. t || (eqb s.0 l.cell.sig.0 && is_bit (slice_get (map tri_bit cells) l.cell.cycle) l.bit)) (before l)
    ∙ ap (λ (x : Sig). dump_has (take row rows) l || (eqb x.0 l.cell.sig.0 && is_bit (slice_get (map tri_bit cells) l.cell.cycle) l.bit)) (sym sig_is)
    ∙ ap (λ bs. dump_has (take row rows) l || (eqb (get_or rows row d).sig.0 l.cell.sig.0 && is_bit (slice_get bs l.cell.cycle) l.bit)) (sym bits_is)
    ∙ sym (list_any_more (λ (r : Row). eqb r.sig.0 l.cell.sig.0 && is_bit (slice_get r.bits l.cell.cycle) l.bit) rows row d within)
