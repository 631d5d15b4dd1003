-- Literals that are added to those of a block.
use Rattle.std.proofs.Common.{ℕ, ◌≡◌, ◌<◌, ◌≤◌, ◌^◌, ◌&&◌, ◌||◌, Bool, true, false, not, inl, inr, refl, sym, ap, subst, ◌∙◌}
use Rattle.std.proofs.lemmas.Bool.{cases_eq, cases_lt, and_parts, and_right, or_cases, or_left, or_right, ltb-true, true≢false}
use Rattle.std.specs.Prelude.{nat_lt}
use Rattle.sr_model.specs.declared.cells.Lit.{Lit}
use Rattle.sr_model.specs.Closure.{lit}
use Rattle.unroll.specs.declared.problem.Block.{Block}
use Rattle.unroll.specs.declared.problem.InChunk.{InChunk}
use Rattle.unroll.specs.declared.words.PinWord.{PinWord}
use Rattle.unroll.specs.Bits.{is_set, is_cycle, union_of, word_for}
use Rattle.unroll.specs.Problem.{Unrolling, HasNoLaterBit, IsInside, bit_of, block_in, block_of, cell_of}
use Rattle.unroll.proofs.lemmas.Laws.{block-chunk, block-within, cell-bit}
use Rattle.unroll.proofs.lemmas.Words.{is_set_above, union_bits}
use Rattle.known_planes.specs.Planes.{PlaneSet, IsNewIn, IsOf, Joins, has_bit, is_new, with_words, words_at}
use Rattle.known_planes.proofs.Clashes.{lowest-bit}
use Rattle.known_planes.proofs.Members.{words-elsewhere, words-there}

neither : (a b : Bool) → (a || b) ≡ false → (a ≡ false) × (b ≡ false)
neither false false e = (refl, refl)
neither true b e = cc
neither false true e = cc

no-more : (a b : Bool) → (a && not b) ≡ false → a ≡ true → b ≡ true
no-more a true e set = refl
no-more true false e set = sym e
no-more false false e set = set

unset : (b : Bool) → not b ≡ true → b ≡ false
unset true e = sym e
unset false e = refl

module _ (u : Unrolling) (planes : PlaneSet) (of : IsOf u planes) (at : InChunk) (inside : IsInside u at) (w : PinWord) where
  -- The words' literals that are not there, and the cycles in which there is one.
  module _ (here new : PinWord) (cycles : ℕ) (here_is : here ≡ words_at planes (block_in u at)) (bits : (bit : Bool) (i : ℕ) → i < 64 → is_set (word_for bit new) i ≡ (is_set (word_for bit w) i && not (is_set (word_for bit here) i)))
      (cycles_is : (i : ℕ) → is_set cycles i ≡ (is_set new.zero i || is_set new.one i)) where
    new-unset : (bit : Bool) (i : ℕ) → is_set cycles i ≡ false → is_set (word_for bit new) i ≡ false
    new-unset true i none = (neither (is_set new.zero i) (is_set new.one i) (sym (cycles_is i) ∙ none)).1
    new-unset false i none = (neither (is_set new.zero i) (is_set new.one i) (sym (cycles_is i) ∙ none)).0

    pub known-there : w.zero < 2 ^ 64 → w.one < 2 ^ 64 → (bit : Bool) (i : ℕ) → is_set cycles i ≡ false → is_set (word_for bit w) i ≡ true → has_bit planes (block_in u at) bit i ≡ true
    known-there zero one bit i none set =
        elim (cases_lt i 64) [
          | inl few ↦
              ap (λ x. is_set (word_for bit x) i) (sym here_is)
              ∙ no-more (is_set (word_for bit w) i) (is_set (word_for bit here) i) (sym (bits bit i few) ∙ new-unset bit i none) set
          | inr past ↦ absurd (true≢false (sym set ∙ above bit past))
        ]
      where
        above : (b : Bool) → 64 ≤ i → is_set (word_for b w) i ≡ false
        above true past = is_set_above w.one i one past
        above false past = is_set_above w.zero i zero past

    pub new-exact : cycles < 2 ^ 64 → w.zero < 2 ^ 64 → w.one < 2 ^ 64 → (i : ℕ) → is_set cycles i ≡ is_new planes (block_in u at) w i
    new-exact small zero one i =
        elim (cases_lt i 64) [
          | inl few ↦
              cycles_is i ∙ ap (λ z. z || is_set new.one i) (bits false i few) ∙ ap (λ o. (is_set w.zero i && not (is_set here.zero i)) || o) (bits true i few)
              ∙ ap (λ (x : PinWord). (is_set w.zero i && not (is_set x.zero i)) || (is_set w.one i && not (is_set x.one i))) here_is
          | inr past ↦
              is_set_above cycles i small past
              ∙ sym (ap (λ z. (z && not (has_bit planes (block_in u at) false i)) || (is_set w.one i && not (has_bit planes (block_in u at) true i))) (is_set_above w.zero i zero past)
              ∙ ap (λ o. o && not (has_bit planes (block_in u at) true i)) (is_set_above w.one i one past))
        ]

    new-at : HasNoLaterBit u.cycles at.chunk w → (bit : Bool) (i : ℕ) → i < 64 → is_set (word_for bit new) i ≡ true → (l : Lit) × IsNewIn u planes (block_in u at) w l
    new-at no_later bit i few set =
        let b : Block = block_in u at in
        let parts : (is_set (word_for bit w) i ≡ true) × (not (is_set (word_for bit here) i) ≡ true) = and_parts (is_set (word_for bit w) i) (not (is_set (word_for bit here) i)) (sym (bits bit i few) ∙ set) in
        let place : (block_of u (cell_of u b i) ≡ b) × (bit_of (cell_of u b i) ≡ i) = cell-bit u b i few in
        let missing : has_bit planes (block_of u (cell_of u b i)) bit (bit_of (cell_of u b i)) ≡ false =
        ap (λ x. has_bit planes x bit (bit_of (cell_of u b i))) place.0 ∙ ap (has_bit planes b bit) place.1 ∙ ap (λ x. is_set (word_for bit x) i) (sym here_is) ∙ unset (is_set (word_for bit here) i) parts.1 in (
          lit (cell_of u b i) bit,
          record {
            in_block = place.0;
            in_time = ltb-true (cell_of u b i).cycle u.cycles (subst (λ n. is_cycle u.cycles n i ≡ true) (sym (block-chunk u at.sig at.chunk inside.1)) (no_later bit i few parts.0));
            unknown = and_right (nat_lt (cell_of u b i).cycle u.cycles) (has_bit planes (block_of u (cell_of u b i)) bit (bit_of (cell_of u b i))) missing;
            listed = ap (is_set (word_for bit w)) place.1 ∙ parts.0;
          },
        )

    pub new-lit : cycles < 2 ^ 64 → HasNoLaterBit u.cycles at.chunk w → (cycles ≡ 0 → ⊥) → (l : Lit) × IsNewIn u planes (block_in u at) w l
    new-lit small no_later some =
        let lowest = lowest-bit cycles some small in
        elim (or_cases _ _ (sym (cycles_is _) ∙ lowest.1)) [
          | inl zero ↦ new-at no_later false _ lowest.0 zero
          | inr one ↦ new-at no_later true _ lowest.0 one
        ]

  -- the words with those that were there
  pub union-none : HasNoLaterBit u.cycles at.chunk w → HasNoLaterBit u.cycles at.chunk (union_of (words_at planes (block_in u at)) w)
  union-none no_later bit i few set =
      elim (or_cases (has_bit planes (block_in u at) bit i) (is_set (word_for bit w) i) (sym (union_bits (words_at planes (block_in u at)) w bit i) ∙ set)) [
        | inl before ↦ subst (λ n. is_cycle u.cycles n i ≡ true) (block-chunk u at.sig at.chunk inside.1) (of.no_later (block_in u at) (block-within u at.sig at.chunk inside.1 inside.0) bit i few before)
        | inr new ↦ no_later bit i few new
      ]

  module _ (all : PlaneSet) (is : all ≡ with_words planes (block_in u at) (union_of (words_at planes (block_in u at)) w)) where
    here-bits : (bit : Bool) (i : ℕ) → has_bit all (block_in u at) bit i ≡ (has_bit planes (block_in u at) bit i || is_set (word_for bit w) i)
    here-bits bit i =
        ap (λ x. has_bit x (block_in u at) bit i) is
        ∙ ap (λ x. is_set (word_for bit x) i)
        (words-there planes (block_in u at) (union_of (words_at planes (block_in u at)) w) (subst (λ n. (block_in u at).0 < n) (sym of.blocks) (block-within u at.sig at.chunk inside.1 inside.0)))
        ∙ union_bits (words_at planes (block_in u at)) w bit i

    other-bits : (a : Block) → (a.0 ≡ (block_in u at).0 → ⊥) → (bit : Bool) (i : ℕ) → has_bit all a bit i ≡ has_bit planes a bit i
    other-bits a other bit i =
        ap (λ x. has_bit x a bit i) is ∙ ap (λ x. is_set (word_for bit x) i) (words-elsewhere planes (block_in u at) a (union_of (words_at planes (block_in u at)) w) other)

    pub union-joins : Joins (block_in u at) w planes all
    union-joins = record {
      kept = λ a bit i h. elim (cases_eq a.0 (block_in u at).0) [
        | inl same ↦
            let one : block_in u at ≡ a = ap (λ n. record { 0 = n }) (sym same) in
            subst (λ x. has_bit all x bit i ≡ true) one (here-bits bit i ∙ or_left (has_bit planes (block_in u at) bit i) (is_set (word_for bit w) i) (ap (λ x. has_bit planes x bit i) one ∙ h))
        | inr other ↦ other-bits a other bit i ∙ h
      ];
      joined = λ bit i h. here-bits bit i ∙ or_right (has_bit planes (block_in u at) bit i) (is_set (word_for bit w) i) h;
      only = λ a bit i h. elim (cases_eq a.0 (block_in u at).0) [
        | inl same ↦
            let one : a ≡ block_in u at = ap (λ n. record { 0 = n }) same in
            elim (or_cases (has_bit planes (block_in u at) bit i) (is_set (word_for bit w) i) (sym (here-bits bit i) ∙ ap (λ x. has_bit all x bit i) (sym one) ∙ h)) [
              | inl before ↦ inl (ap (λ x. has_bit planes x bit i) one ∙ before)
              | inr set ↦ inr (one, set)
            ]
        | inr other ↦ inl (sym (other-bits a other bit i) ∙ h)
      ];
      mark = ap (λ (x : PlaneSet). x.mark) is;
    }
