-- New words of blocks that are listed, one block after another.
use Rattle.std.proofs.Common.{ℕ, ◌≡◌, ◌<◌, ◌≤◌, ◌+◌, ◌⊎◌, ◌&&◌, ◌||◌, ◌++◌, ◌∷◌, [], Bool, true, false, not, eqb, List, length, map, get_or, set, length-set, get_or-set_same, get_or-set_other, arith, inl, inr, refl, sym, ap, subst, ◌∙◌}
use Rattle.std.specs.List.{All, Contains}
use Rattle.std.proofs.lemmas.Bool.{cases_Bool, cases_eq, cases_lt, and_from, eqb-true, or_left, or_right, true≢false}
use Rattle.std.proofs.lemmas.List.{get_or_default, length-map}
use Rattle.std.proofs.lemmas.List.Elements.{All-get_or, Contains-append_left, Contains-push, Contains-push_cases}
use Rattle.sr_model.specs.Room.{WithRoom}
use Rattle.unroll.specs.declared.problem.Block.{Block}
use Rattle.unroll.specs.declared.problem.InChunk.{InChunk}
use Rattle.unroll.specs.declared.words.PinWord.{PinWord}
use Rattle.unroll.specs.Bits.{is_set, word_for}
use Rattle.unroll.specs.Problem.{Unrolling, IsInside, block_in, chunk_at, chunks_in, sig_at}
use Rattle.unroll.proofs.lemmas.Laws.{block-chunk, block-sig}
use Rattle.unroll.proofs.lemmas.Words.{is_set_zero}
use Rattle.gate_rules.specs.Forced.{bit_at_place}
use Rattle.gate_rules.specs.Lanes.{words_at_place}
use Rattle.known_planes.specs.Planes.{PlaneSet, has_bit, words_at}
use Rattle.plain_close.specs.declared.changes.Change.{Change}
use Rattle.plain_close.specs.Changes.{AreKept, IsNewChange, ListsNew, changes_in}
use Rattle.plain_close.proofs.Joining.{block-is, block_of_index, is-inside}

abbrev no_list : WithRoom Change
no_list = record { items = []; room = 0 }

-- a change that is put at the end of a chunk's list
module _ (lists : List (WithRoom Change)) (k : ℕ) (longer : WithRoom Change) (change : Change) (within : k < length lists) (pushed : longer.items ≡ changes_in lists k ++ change ∷ []) where
  here : changes_in (set lists k longer) k ≡ changes_in lists k ++ change ∷ []
  here = ap (λ (l : WithRoom Change). l.items) (get_or-set_same lists k longer no_list within) ∙ pushed

  elsewhere : (at : ℕ) → (at ≡ k → ⊥) → changes_in (set lists k longer) at ≡ changes_in lists at
  elsewhere at other = ap (λ (l : WithRoom Change). l.items) (get_or-set_other lists k at longer no_list other)

  pub push-kept : AreKept lists (set lists k longer)
  push-kept at c h =
      elim (cases_eq at k) [
        | inl same ↦
            let listed : Contains (changes_in lists k) c = subst (λ n. Contains (changes_in lists n) c) same h in
            subst (λ n. Contains (changes_in (set lists k longer) n) c) (sym same) (subst (λ cs. Contains cs c) (sym here) (Contains-append_left (changes_in lists k) (change ∷ []) c listed))
        | inr other ↦ subst (λ cs. Contains cs c) (sym (elsewhere at other)) h
      ]

  pub push-only : (at : ℕ) (c : Change) → Contains (changes_in (set lists k longer) at) c → Contains (changes_in lists at) c ⊎ ((k ≡ at) × (change ≡ c))
  push-only at c h =
      elim (cases_eq at k) [
        | inl same ↦
            let listed : Contains (changes_in (set lists k longer) k) c = subst (λ n. Contains (changes_in (set lists k longer) n) c) same h in
            elim (Contains-push_cases (changes_in lists k) change c (subst (λ cs. Contains cs c) here listed)) [
              | inl earlier ↦ inl (subst (λ n. Contains (changes_in lists n) c) (sym same) earlier)
              | inr e ↦ inr (sym same, e)
            ]
        | inr other ↦ inl (subst (λ cs. Contains cs c) (elsewhere at other) h)
      ]

  pub push-there : Contains (changes_in (set lists k longer) k) change
  push-there = subst (λ cs. Contains cs change) (sym here) (Contains-push (changes_in lists k) change)

-- what of the words of the first blocks is not known is listed
pub record ListsFirst (u : Unrolling) (planes : PlaneSet) (task : InChunk) (again : Bool) (blocks : List Block) (words : List PinWord) (n : ℕ) (old new : List (WithRoom Change)) : Type 0 where
  pub size : length new ≡ length old
  pub kept : AreKept old new
  pub only : (at : ℕ) (change : Change) → Contains (changes_in new at) change → Contains (changes_in old at) change ⊎ IsNewChange u planes task again blocks words at change
  pub all : (j i : ℕ) (bit : Bool) → j < n → i < 64 → bit_at_place words j bit i ≡ true
      → (has_bit planes (block_of_index blocks j) bit i ≡ true)
      ⊎ ((change : Change) × Contains (changes_in new (chunk_at u (block_of_index blocks j))) change × (change.sig ≡ sig_at u (block_of_index blocks j)) × (is_set (word_for bit change.words) i ≡ true)
      × (change.cause ≡ task.sig))

module _ (u : Unrolling) (planes : PlaneSet) (task : InChunk) (again : Bool) (in_chunks : List InChunk) (out : List PinWord) (old : List (WithRoom Change)) where
  abbrev blocks : List Block
  blocks = map (block_in u) in_chunks

  pub lists-none : ListsFirst u planes task again blocks out 0 old old
  lists-none = record {
    size = refl;
    kept = λ at change h. h;
    only = λ at change h. inl h;
    all = λ j i bit none few h. absurd (omega (arith, none));
  }

  pub lists-all : (n : ℕ) (new : List (WithRoom Change)) → length in_chunks ≤ n → ListsFirst u planes task again blocks out n old new → ListsNew u planes task again blocks out old new
  lists-all n new all lists = record {
    size = lists.size;
    kept = lists.kept;
    only = lists.only;
    all = λ j i bit within. lists.all j i bit (omega (arith, within, length-map in_chunks (block_in u), all));
  }

  module _ (n : ℕ) (d : InChunk) (within : n < length in_chunks) (inside : All (IsInside u) in_chunks) (mid : List (WithRoom Change)) (before : ListsFirst u planes task again blocks out n old mid) (known fresh : PinWord)
      (known_is : known ≡ words_at planes (block_in u (get_or in_chunks n d)))
      (fresh_is : (bit : Bool) (i : ℕ) → i < 64 → is_set (word_for bit fresh) i ≡ (is_set (word_for bit (words_at_place out n)) i && not (is_set (word_for bit known) i))) where
    abbrev this : InChunk
    this = get_or in_chunks n d

    this-block : block_of_index blocks n ≡ block_in u this
    this-block = block-is u in_chunks n d this within refl

    this-inside : IsInside u this
    this-inside = is-inside u in_chunks n d this within refl inside

    -- a bit of the words is known or new
    known-or-new : (bit : Bool) (i : ℕ) → i < 64 → bit_at_place out n bit i ≡ true → (has_bit planes (block_of_index blocks n) bit i ≡ true) ⊎ (is_set (word_for bit fresh) i ≡ true)
    known-or-new bit i few set =
        elim (cases_Bool (is_set (word_for bit known) i)) [
          | inl is ↦ inl (ap (λ b. has_bit planes b bit i) this-block ∙ ap (λ w. is_set (word_for bit w) i) (sym known_is) ∙ is)
          | inr none ↦ inr (fresh_is bit i few ∙ ap (λ b. b && not (is_set (word_for bit known) i)) set ∙ ap not none)
        ]

    one-more : (j : ℕ) → n ≤ j → j < n + 1 → n ≡ j
    one-more j past early = omega (arith, past, early)

    -- where nothing is new
    pub lists-skip : (some : ℕ) → ((i : ℕ) → is_set some i ≡ (is_set fresh.zero i || is_set fresh.one i)) → some ≡ 0 → ListsFirst u planes task again blocks out (n + 1) old mid
    lists-skip some some_is none = record {
      size = before.size;
      kept = before.kept;
      only = before.only;
      all = λ j i bit early few set. elim (cases_lt j n) [
        | inl below ↦ before.all j i bit below few set
        | inr past ↦
            let same : n ≡ j = one-more j past early in
            elim (known-or-new bit i few (ap (λ k. bit_at_place out k bit i) same ∙ set)) [
              | inl known ↦ inl (ap (λ k. has_bit planes (block_of_index blocks k) bit i) (sym same) ∙ known)
              | inr new ↦ absurd (true≢false (sym (either bit i new) ∙ sym (some_is i) ∙ ap (λ k. is_set k i) none ∙ is_set_zero i))
            ]
      ];
    }
      where
        either : (bit : Bool) (i : ℕ) → is_set (word_for bit fresh) i ≡ true → (is_set fresh.zero i || is_set fresh.one i) ≡ true
        either true i h = or_right (is_set fresh.zero i) (is_set fresh.one i) h
        either false i h = or_left (is_set fresh.zero i) (is_set fresh.one i) h

    -- one change more
    pub lists-more : (change : Change) → change.sig ≡ this.sig → change.words ≡ fresh → change.cause ≡ task.sig → (change.again ≡ false → (again ≡ false) × (this.chunk ≡ task.chunk)) → (longer e : WithRoom Change)
        → this.chunk < length mid → longer.items ≡ (get_or mid this.chunk e).items ++ change ∷ [] → ListsFirst u planes task again blocks out (n + 1) old (set mid this.chunk longer)
    lists-more change sig words cause once longer e few_chunks at_end = record {
      size = length-set mid this.chunk longer ∙ before.size;
      kept = λ at c h. push-kept mid this.chunk longer change few_chunks pushed at c (before.kept at c h);
      only = λ at c h. elim (push-only mid this.chunk longer change few_chunks pushed at c h) [
        | inl earlier ↦ before.only at c earlier
        | inr (chunk, e) ↦ inr (subst (λ k. IsNewChange u planes task again blocks out k c) chunk (subst (IsNewChange u planes task again blocks out this.chunk) e new-change))
      ];
      all = λ j i bit early few h. elim (cases_lt j n) [
        | inl below ↦ elim (before.all j i bit below few h) [
          | inl known ↦ inl known
          | inr (c, listed, signal, is, by) ↦ inr (c, push-kept mid this.chunk longer change few_chunks pushed (chunk_at u (block_of_index blocks j)) c listed, signal, is, by)
        ]
        | inr past ↦
            let same : n ≡ j = one-more j past early in
            elim (known-or-new bit i few (ap (λ k. bit_at_place out k bit i) same ∙ h)) [
              | inl known ↦ inl (ap (λ k. has_bit planes (block_of_index blocks k) bit i) (sym same) ∙ known)
              | inr new ↦ inr (
                change,
                subst (λ k. Contains (changes_in (set mid this.chunk longer) k) change)
                    (sym (ap (λ k. chunk_at u (block_of_index blocks k)) (sym same) ∙ ap (chunk_at u) this-block ∙ block-chunk u this.sig this.chunk this-inside.1))
                    (push-there mid this.chunk longer change few_chunks pushed),
                sig ∙ sym (ap (λ k. sig_at u (block_of_index blocks k)) (sym same) ∙ ap (sig_at u) this-block ∙ block-sig u this.sig this.chunk this-inside.1),
                ap (λ w. is_set (word_for bit w) i) words ∙ new,
                cause,
              )
            ]
      ];
    }
      where
        pushed : longer.items ≡ changes_in mid this.chunk ++ change ∷ []
        pushed = at_end ∙ ap (λ (l : WithRoom Change). l.items ++ change ∷ []) (get_or_default mid this.chunk e no_list few_chunks)

        block : block_of_index blocks n ≡ block_in u (record { sig = change.sig; chunk = this.chunk })
        block = this-block ∙ ap (λ s. block_in u (record { sig = s; chunk = this.chunk })) (sym sig)

        new-change : IsNewChange u planes task again blocks out this.chunk change
        new-change = record {
          index = n;
          within = subst (λ k. n < k) (sym (length-map in_chunks (block_in u))) within;
          block = block;
          inside = subst (λ s. IsInside u (record { sig = s; chunk = this.chunk })) (sym sig) this-inside;
          set = λ bit i few. ap (λ w. is_set (word_for bit w) i) words ∙ fresh_is bit i few
              ∙ ap (λ w. bit_at_place out n bit i && not (is_set (word_for bit w) i)) (known_is ∙ ap (words_at planes) (sym this-block ∙ block));
          cause = cause;
          own = once;
        }

-- the list of a block's chunk is there
pub few_lists : (u : Unrolling) (in_chunks : List InChunk) (n : ℕ) (d : InChunk) → n < length in_chunks → All (IsInside u) in_chunks → (count : ℕ) → count ≡ chunks_in u → (get_or in_chunks n d).chunk < count
few_lists u in_chunks n d within inside count size = subst (λ k. (get_or in_chunks n d).chunk < k) (sym size) (All-get_or (IsInside u) in_chunks n d within inside).1

-- the test that is made where the task is to wait again
pub waits-once : (again : Bool) (a b : ℕ) → (again || not (eqb a b)) ≡ false → (again ≡ false) × (a ≡ b)
waits-once true a b h = absurd (true≢false h)
waits-once false a b h = (refl, eqb-true a b (not_false (eqb a b) h))
  where
    not_false : (c : Bool) → not c ≡ false → c ≡ true
    not_false true e = refl
    not_false false e = absurd (true≢false e)

-- the planes have all literals of the first words
abbrev pub AreFirstKnown : PlaneSet → List Block → List PinWord → ℕ → Type 0
AreFirstKnown planes blocks words n = (j i : ℕ) (bit : Bool) → j < n → i < 64 → bit_at_place words j bit i ≡ true → has_bit planes (block_of_index blocks j) bit i ≡ true

-- no cell of the first blocks has both literals with those of the words
abbrev pub HaveFirstNoClash : PlaneSet → List Block → List PinWord → ℕ → Type 0
HaveFirstNoClash planes blocks words n =
    (j i : ℕ) → j < n → i < 64 → ((bit : Bool) → (has_bit planes (block_of_index blocks j) bit i ≡ true) ⊎ (bit_at_place words j bit i ≡ true)) → ⊥

module _ (u : Unrolling) (planes : PlaneSet) (in_chunks : List InChunk) (out : List PinWord) (n : ℕ) (d : InChunk) (within : n < length in_chunks) where
  abbrev first_blocks : List Block
  first_blocks = map (block_in u) in_chunks

  nth-block : block_of_index first_blocks n ≡ block_in u (get_or in_chunks n d)
  nth-block = block-is u in_chunks n d (get_or in_chunks n d) within refl

  -- one block more
  pub known-more : (fresh : ℕ)
      → ((bit : Bool) (i : ℕ) → is_set fresh i ≡ false → is_set (word_for bit (words_at_place out n)) i ≡ true → has_bit planes (block_in u (get_or in_chunks n d)) bit i ≡ true) → fresh ≡ 0
      → AreFirstKnown planes first_blocks out n → AreFirstKnown planes first_blocks out (n + 1)
  known-more fresh known none before j i bit early few set =
      elim (cases_lt j n) [
        | inl below ↦ before j i bit below few set
        | inr past ↦
            let same : j ≡ n = omega (arith, past, early) in
            ap (λ k. has_bit planes (block_of_index first_blocks k) bit i) same ∙ ap (λ b. has_bit planes b bit i) nth-block
            ∙ known bit i (ap (λ f. is_set f i) none ∙ is_set_zero i) (ap (λ k. bit_at_place out k bit i) (sym same) ∙ set)
      ]

  pub no_clash-more : (known words : PinWord) (both : ℕ) → known ≡ words_at planes (block_in u (get_or in_chunks n d))
      → ((bit : Bool) (i : ℕ) → is_set (word_for bit words) i ≡ (is_set (word_for bit known) i || is_set (word_for bit (words_at_place out n)) i))
      → ((i : ℕ) → is_set both i ≡ (is_set words.zero i && is_set words.one i)) → both ≡ 0
      → HaveFirstNoClash planes first_blocks out n → HaveFirstNoClash planes first_blocks out (n + 1)
  no_clash-more known words both known_is words_is both_is none before j i early few h =
      elim (cases_lt j n) [
        | inl below ↦ before j i below few h
        | inr past ↦
            let same : j ≡ n = omega (arith, past, early) in
            true≢false (sym (and_from (is_set words.zero i) (is_set words.one i) (holds same false) (holds same true)) ∙ sym (both_is i) ∙ ap (λ f. is_set f i) none ∙ is_set_zero i)
      ]
    where
      holds : j ≡ n → (bit : Bool) → is_set (word_for bit words) i ≡ true
      holds same bit =
          words_is bit i ∙ (elim (h bit) [
            | inl there ↦ or_left (is_set (word_for bit known) i) (is_set (word_for bit (words_at_place out n)) i)
                (ap (λ w. is_set (word_for bit w) i) known_is ∙ ap (λ b. has_bit planes b bit i) (sym nth-block) ∙ ap (λ k. has_bit planes (block_of_index first_blocks k) bit i) (sym same) ∙ there)
            | inr set ↦ or_right (is_set (word_for bit known) i) (is_set (word_for bit (words_at_place out n)) i) (ap (λ k. bit_at_place out k bit i) (sym same) ∙ set)
          ])
