-- A text is refused in one way at most, and never where it is read.
use Rattle.std.proofs.Common.{◌≡◌, ◌≢◌, ℕ, suc, ◌+◌, ◌<◌, Bool, List, [], ◌∷◌, ◌++◌, length, get_or, map, Option, Some, refl, sym, ap, subst, ◌∙◌, inl, inr, arith}
use Rattle.std.specs.Prelude.{Contains, IsSome}
use Rattle.std.specs.List.{All, AllPairs}
use Rattle.std.proofs.lemmas.List.{length-append, get_or_append_left, get_or_at, map-append}
use Rattle.std.proofs.lemmas.List.Elements.{Contains-get_or, All-nil, All-cons}
use Rattle.std.proofs.lemmas.Option.{slice_get_within, get_or_from_slice_get}
use Rattle.sr_model.specs.declared.cells.Sig.{Sig}
use Rattle.sr_model.specs.Dump.{Row}
use Rattle.dump_reader.specs.declared.refusal.DumpRefusal.{DumpRefusal}
use Rattle.dump_reader.specs.declared.refusal.DumpRefusal.TheVariants.{Head, Cycles, TooManyCells, RowSyntax, UnknownSignal, TwiceNamed, RowLength, BadBit, NoMemory}
use Rattle.dump_reader.specs.Recording.{Recording, recorded}
use Rattle.sr_model.specs.Limits.{block_count}
use Rattle.sr_text.specs.Lines.{numbered, past_end}
use Rattle.dump_reader.specs.Grammar.{IsHead, IsCyclesLine, FailsFirst, HasFront, HasFittingFront, NamesSignal, NamesNewSignal, StatesRow, StateRows, Spells, IsHeadFault, IsCyclesFault, IsCellsFault, IsSyntaxFault, IsNameFault, IsTwiceFault, IsLengthFault, IsRowFault, bit_read}
use Rattle.dump_reader.specs.Refusal.{IsRefusal, IsRowRefusal}
use Rattle.dump_reader.specs.Laws.{IsRefusedOnce, DumpsAreNotRefused}
use Rattle.sr_text.proofs.lemmas.FirstFaults.{Line, part, same_cons}
use Rattle.dump_reader.proofs.Tokens.{same_tokens}
use Rattle.dump_reader.proofs.SameRows.{HasOwnNames, State, same_front, same_signal, same_row, same_rows}

-- ---- the first of some lines

fails_once : (IsKind : List ℕ → Type 0) (past : ℕ) (lines : List Line) (a b : ℕ) → FailsFirst IsKind past lines a → FailsFirst IsKind past lines b → a ≡ b
fails_once IsKind past [] a b h k = h ∙ sym k
fails_once IsKind past (line ∷ lines) a b h k = h.0 ∙ sym k.0

fails_not : (IsKind : List ℕ → Type 0) (past : ℕ) (lines left : List Line) (first : Line) (at : ℕ) → lines ≡ first ∷ left → IsKind first.1 → FailsFirst IsKind past lines at → ⊥
fails_not IsKind past lines left first at is kind h = let fails : FailsFirst IsKind past (first ∷ left) at = subst (λ (ls : List Line). FailsFirst IsKind past ls at) is h in fails.1 kind

-- ---- one bad line

named : (names : List (List ℕ)) (text characters : List ℕ) (sig : Sig) → NamesSignal names text sig characters → IsSyntaxFault text → ⊥
named names text characters sig h fault = fault h.name characters h.tokens

known : (names : List (List ℕ)) (text characters : List ℕ) (sig : Sig) → NamesSignal names text sig characters → IsNameFault names text → ⊥
known names text characters sig h fault =
    let name : h.name ≡ fault.0 = (same_tokens text h.name characters fault.0 fault.1 h.tokens fault.2).0 in
    let within : sig.0 < length names = slice_get_within names sig.0 h.name h.is_name in
    let at : get_or names sig.0 h.name ≡ h.name = get_or_from_slice_get names sig.0 h.name h.name h.is_name in
    fault.3 (subst (Contains names) (at ∙ name) (Contains-get_or names sig.0 h.name within))

fresh_once : (names : List (List ℕ)) (rows : List Row) (text characters : List ℕ) → HasOwnNames names → NamesNewSignal names rows text characters → IsTwiceFault names rows text → ⊥
fresh_once names rows text characters own h fault =
    h.2 (subst (Contains (recorded rows)) (same_signal names text fault.1 characters fault.0 h.0 own fault.2 h.1).0 fault.3)

same_characters : (names : List (List ℕ)) (rows : List Row) (text a b : List ℕ) → HasOwnNames names → NamesNewSignal names rows text a → NamesNewSignal names rows text b → a ≡ b
same_characters names rows text a b own h k = (same_signal names text a b h.0 k.0 own h.1 k.1).1

full_length : (names : List (List ℕ)) (cycles : ℕ) (rows : List Row) (text characters : List ℕ) → HasOwnNames names → NamesNewSignal names rows text characters → length characters ≡ cycles → IsLengthFault names cycles rows text → ⊥
full_length names cycles rows text characters own h len fault =
    fault.2 (ap (λ (cs : List ℕ). length cs) (same_characters names rows text fault.0 characters own fault.1 h) ∙ len)

-- a row's line is bad in one way at most
row_once : (names : List (List ℕ)) (cycles : ℕ) (rows : List Row) (number : ℕ) (text : List ℕ) (a b : DumpRefusal) → HasOwnNames names → IsRowRefusal names cycles rows number text a → IsRowRefusal names cycles rows number text b
    → (a ≢ NoMemory) → (b ≢ NoMemory) → a ≡ b
row_once names cycles rows number text NoMemory b own h k some other = absurd (some refl)
row_once names cycles rows number text (Head m) b own h k some other = absurd h
row_once names cycles rows number text (Cycles m) b own h k some other = absurd h
row_once names cycles rows number text (TooManyCells m p) b own h k some other = absurd h
row_once names cycles rows number text (RowSyntax m) (RowSyntax n) own h k some other = ap RowSyntax (h.0 ∙ sym k.0)
row_once names cycles rows number text (RowSyntax m) (UnknownSignal n) own h k some other = absurd (h.1 k.1.0 k.1.1 k.1.2)
row_once names cycles rows number text (RowSyntax m) (TwiceNamed n) own h k some other = absurd (named names text k.1.1 k.1.0 k.1.2 h.1)
row_once names cycles rows number text (RowSyntax m) (RowLength n) own h k some other = absurd (named names text k.1.0 k.1.1.0 k.1.1.1 h.1)
row_once names cycles rows number text (RowSyntax m) (BadBit n) own h k some other = absurd (named names text k.1.0 k.1.1.0 k.1.1.1 h.1)
row_once names cycles rows number text (UnknownSignal m) (RowSyntax n) own h k some other = absurd (k.1 h.1.0 h.1.1 h.1.2)
row_once names cycles rows number text (UnknownSignal m) (UnknownSignal n) own h k some other = ap UnknownSignal (h.0 ∙ sym k.0)
row_once names cycles rows number text (UnknownSignal m) (TwiceNamed n) own h k some other = absurd (known names text k.1.1 k.1.0 k.1.2 h.1)
row_once names cycles rows number text (UnknownSignal m) (RowLength n) own h k some other = absurd (known names text k.1.0 k.1.1.0 k.1.1.1 h.1)
row_once names cycles rows number text (UnknownSignal m) (BadBit n) own h k some other = absurd (known names text k.1.0 k.1.1.0 k.1.1.1 h.1)
row_once names cycles rows number text (TwiceNamed m) (RowSyntax n) own h k some other = absurd (named names text h.1.1 h.1.0 h.1.2 k.1)
row_once names cycles rows number text (TwiceNamed m) (UnknownSignal n) own h k some other = absurd (known names text h.1.1 h.1.0 h.1.2 k.1)
row_once names cycles rows number text (TwiceNamed m) (TwiceNamed n) own h k some other = ap TwiceNamed (h.0 ∙ sym k.0)
row_once names cycles rows number text (TwiceNamed m) (RowLength n) own h k some other = absurd (fresh_once names rows text k.1.0 own k.1.1 h.1)
row_once names cycles rows number text (TwiceNamed m) (BadBit n) own h k some other = absurd (fresh_once names rows text k.1.0 own k.1.1 h.1)
row_once names cycles rows number text (RowLength m) (RowSyntax n) own h k some other = absurd (named names text h.1.0 h.1.1.0 h.1.1.1 k.1)
row_once names cycles rows number text (RowLength m) (UnknownSignal n) own h k some other = absurd (known names text h.1.0 h.1.1.0 h.1.1.1 k.1)
row_once names cycles rows number text (RowLength m) (TwiceNamed n) own h k some other = absurd (fresh_once names rows text h.1.0 own h.1.1 k.1)
row_once names cycles rows number text (RowLength m) (RowLength n) own h k some other = ap RowLength (h.0 ∙ sym k.0)
row_once names cycles rows number text (RowLength m) (BadBit n) own h k some other = absurd (full_length names cycles rows text k.1.0 own k.1.1 k.1.2 h.1)
row_once names cycles rows number text (BadBit m) (RowSyntax n) own h k some other = absurd (named names text h.1.0 h.1.1.0 h.1.1.1 k.1)
row_once names cycles rows number text (BadBit m) (UnknownSignal n) own h k some other = absurd (known names text h.1.0 h.1.1.0 h.1.1.1 k.1)
row_once names cycles rows number text (BadBit m) (TwiceNamed n) own h k some other = absurd (fresh_once names rows text h.1.0 own h.1.1 k.1)
row_once names cycles rows number text (BadBit m) (RowLength n) own h k some other = absurd (full_length names cycles rows text h.1.0 own h.1.1 h.1.2 k.1)
row_once names cycles rows number text (BadBit m) (BadBit n) own h k some other = ap BadBit (h.0 ∙ sym k.0)
row_once names cycles rows number text a NoMemory own h k some other = absurd (other refl)
row_once names cycles rows number text a (Head n) own h k some other = absurd k
row_once names cycles rows number text a (Cycles n) own h k some other = absurd k
row_once names cycles rows number text a (TooManyCells n p) own h k some other = absurd k

-- each character of a row is a bit
all_bits : (characters : List ℕ) (bits : List (Option Bool)) → map bit_read characters ≡ map (λ (x : Option Bool). Some x) bits → All (λ c. IsSome (bit_read c)) characters
all_bits [] bits e = All-nil (λ c. IsSome (bit_read c))
all_bits (c ∷ cs) [] e = cc
all_bits (c ∷ cs) (bit ∷ bits) e =
    let both = same_cons (bit_read c) (Some bit) (map bit_read cs) (map (λ (x : Option Bool). Some x) bits) e in
    All-cons (λ c. IsSome (bit_read c)) c cs (subst IsSome (sym both.0) refl) (all_bits cs bits both.1)

-- and it is bad in none where it states a further row
row_states : (names : List (List ℕ)) (cycles : ℕ) (rows : List Row) (number : ℕ) (text : List ℕ) (e : DumpRefusal) (row : Row) → HasOwnNames names → IsRowRefusal names cycles rows number text e → (e ≢ NoMemory)
    → StatesRow names cycles text row → (Contains (recorded rows) row.sig → ⊥) → ⊥
row_states names cycles rows number text NoMemory row own h some states fresh = some refl
row_states names cycles rows number text (Head m) row own h some states fresh = h
row_states names cycles rows number text (Cycles m) row own h some states fresh = h
row_states names cycles rows number text (TooManyCells m p) row own h some states fresh = h
row_states names cycles rows number text (RowSyntax m) row own h some states fresh = named names text states.characters row.sig states.names_signal h.1
row_states names cycles rows number text (UnknownSignal m) row own h some states fresh = known names text states.characters row.sig states.names_signal h.1
row_states names cycles rows number text (TwiceNamed m) row own h some states fresh = fresh_once names rows text states.characters own (row.sig, states.names_signal, fresh) h.1
row_states names cycles rows number text (RowLength m) row own h some states fresh = full_length names cycles rows text states.characters own (row.sig, states.names_signal, fresh) states.full h.1
row_states names cycles rows number text (BadBit m) row own h some states fresh =
    h.1.3 (subst (All (λ c. IsSome (bit_read c))) (same_characters names rows text states.characters h.1.0 own (row.sig, states.names_signal, fresh) h.1.1) (all_bits states.characters row.bits states.bits))

-- ---- a line that is read

-- the rows of a front go on with the row of the next line
record GoesOn (names : List (List ℕ)) (cycles : ℕ) (line : List ℕ) (rows all : List Row) : Type 0 where
  row : Row
  later : List Row
  is : all ≡ rows ++ row ∷ later
  states : StatesRow names cycles line row

goes_on : (names : List (List ℕ)) (cycles : ℕ) (xs us : List Line) (p : Line) (rows all : List Row) → HasOwnNames names → State names cycles xs rows → State names cycles (xs ++ p ∷ us) all → GoesOn names cycles p.1 rows all
goes_on names cycles [] us p [] [] own h k = absurd k
goes_on names cycles [] us p [] (row ∷ all) own h k = record { row = row; later = all; is = refl; states = k.0 }
goes_on names cycles [] us p (a ∷ rows) all own h k = absurd h
goes_on names cycles (x ∷ xs) us p [] all own h k = absurd h
goes_on names cycles (x ∷ xs) us p (a ∷ rows) [] own h k = absurd k
goes_on names cycles (x ∷ xs) us p (a ∷ rows) (b ∷ all) own h k =
    let rest = goes_on names cycles xs us p rows all own h.1 k.1 in
    record { row = rest.row; later = rest.later; is = ap (λ (r : Row). r ∷ all) (same_row names cycles x.1 b a own k.0 h.0) ∙ ap (λ (rs : List Row). a ∷ rs) rest.is; states = rest.states }

-- that row is of a signal without one
goes_on_fresh : (rows later : List Row) (row : Row) → AllPairs (λ (a b : Sig). a ≢ b) (recorded (rows ++ row ∷ later)) → Contains (recorded rows) row.sig → ⊥
goes_on_fresh rows later row once has =
    let sigs : recorded (rows ++ row ∷ later) ≡ recorded rows ++ row.sig ∷ recorded later = map-append (λ (x : Row). x.sig) rows (row ∷ later) in
    let apart : AllPairs (λ (a b : Sig). a ≢ b) (recorded rows ++ row.sig ∷ recorded later) = subst (AllPairs (λ (a b : Sig). a ≢ b)) sigs once in
    let len : length (recorded rows ++ row.sig ∷ recorded later) ≡ length (recorded rows) + suc (length (recorded later)) = length-append (recorded rows) (row.sig ∷ recorded later) in
    let before : get_or (recorded rows ++ row.sig ∷ recorded later) has.0 row.sig ≡ row.sig = get_or_append_left (recorded rows) (row.sig ∷ recorded later) row.sig has.0 has.1 ∙ has.2 in
    let here : get_or (recorded rows ++ row.sig ∷ recorded later) (length (recorded rows)) row.sig ≡ row.sig = get_or_at (recorded rows) row.sig (recorded later) row.sig (length (recorded rows)) refl in
    apart has.0 (length (recorded rows)) row.sig has.1 (omega (arith, len)) (before ∙ sym here)

-- a line that is read can't be bad
not_read : (names : List (List ℕ)) (cycles : ℕ) (lines xs us : List Line) (p : Line) (rows all : List Row) (e : DumpRefusal) (number : ℕ) → HasOwnNames names → StateRows names cycles xs rows → StateRows names cycles lines all → lines ≡ xs ++ p ∷ us
    → IsRowRefusal names cycles rows number p.1 e → (e ≢ NoMemory) → ⊥
not_read names cycles lines xs us p rows all e number own h k is refused some =
    let on = goes_on names cycles xs us p rows all own h.each (subst (λ (ls : List Line). State names cycles ls all) is k.each) in
    row_states names cycles rows number p.1 e on.row own refused some on.states (goes_on_fresh rows on.later on.row (subst (λ (rs : List Row). AllPairs (λ (a b : Sig). a ≢ b) (recorded rs)) on.is k.once))

-- ---- the four places of a refusal

abbrev RowBroken : List (List ℕ) → ℕ → List ℕ → DumpRefusal → ℕ → Type 0
RowBroken names signals text e line = IsRowFault (λ cycles rows bad. IsRowRefusal names cycles rows line bad e) names signals text line

data Broken (names : List (List ℕ)) (signals : ℕ) (text : List ℕ) : DumpRefusal → Type 0 where
  at_head : (line : ℕ) → IsHeadFault text line → Broken names signals text (Head line)
  at_cycles : (line : ℕ) → IsCyclesFault text line → Broken names signals text (Cycles line)
  at_cells : (line product : ℕ) → IsCellsFault signals text line product → Broken names signals text (TooManyCells line product)
  at_row : (e : DumpRefusal) (line : ℕ) → RowBroken names signals text e line → Broken names signals text e

row_broken : (IsFault : ℕ → List Row → List ℕ → Type 0) (IsOther : ℕ → List Row → List ℕ → Type 0) (names : List (List ℕ)) (signals : ℕ) (text : List ℕ) (line : ℕ)
    → ((cycles : ℕ) (rows : List Row) (bad : List ℕ) → IsFault cycles rows bad → IsOther cycles rows bad) → IsRowFault IsFault names signals text line → IsRowFault IsOther names signals text line
row_broken IsFault IsOther names signals text line f h =
    let first = h.first in
    record {
      cycles = h.cycles;
      lines = h.lines;
      front = h.front;
      first = record { before = first.before; bad = first.bad; after = first.after; whole = first.whole; said = first.said; say = first.say; fault = f h.cycles first.said first.bad first.fault };
    }

broken : (names : List (List ℕ)) (signals : ℕ) (text : List ℕ) (e : DumpRefusal) → IsRefusal names signals text e → (e ≢ NoMemory) → Broken names signals text e
broken names signals text (Head line) h some = at_head line h
broken names signals text (Cycles line) h some = at_cycles line h
broken names signals text (TooManyCells line product) h some = at_cells line product h
broken names signals text (RowSyntax line) h some = at_row (RowSyntax line) line (row_broken _ _ names signals text line (λ cycles rows bad fault. (refl, fault)) h)
broken names signals text (UnknownSignal line) h some = at_row (UnknownSignal line) line (row_broken _ _ names signals text line (λ cycles rows bad fault. (refl, fault)) h)
broken names signals text (TwiceNamed line) h some = at_row (TwiceNamed line) line (row_broken _ _ names signals text line (λ cycles rows bad fault. (refl, fault)) h)
broken names signals text (RowLength line) h some = at_row (RowLength line) line (row_broken _ _ names signals text line (λ cycles rows bad fault. (refl, fault)) h)
broken names signals text (BadBit line) h some = at_row (BadBit line) line (row_broken _ _ names signals text line (λ cycles rows bad fault. (refl, fault)) h)
broken names signals text NoMemory h some = absurd (some refl)

-- ---- fronts

head_not : (text : List ℕ) (line number cycles : ℕ) (left : List Line) → IsHeadFault text line → HasFront text number cycles left → ⊥
head_not text line number cycles left h k = fails_not IsHead (past_end text) (numbered text) ((number, k.cycles_line) ∷ left) k.head line k.whole k.is_head h

head_not_cycles : (text : List ℕ) (line number : ℕ) → IsHeadFault text line → IsCyclesFault text number → ⊥
head_not_cycles text line number h k = fails_not IsHead (past_end text) (numbered text) k.lines k.head line k.whole k.is_head h

cycles_not : (text : List ℕ) (line number cycles : ℕ) (left : List Line) → IsCyclesFault text line → HasFront text number cycles left → ⊥
cycles_not text line number cycles left h k =
    let both = same_cons h.head k.head h.lines ((number, k.cycles_line) ∷ left) (sym h.whole ∙ k.whole) in
    fails_not (λ l. (n : ℕ) × IsCyclesLine n l) (past_end text) h.lines left (number, k.cycles_line) line both.1 (cycles, k.is_cycles_line) h.fault

cycles_once : (text : List ℕ) (a b : ℕ) → IsCyclesFault text a → IsCyclesFault text b → a ≡ b
cycles_once text a b h k =
    let both = same_cons h.head k.head h.lines k.lines (sym h.whole ∙ k.whole) in
    fails_once (λ l. (n : ℕ) × IsCyclesLine n l) (past_end text) k.lines a b (subst (λ (ls : List Line). FailsFirst (λ l. (n : ℕ) × IsCyclesLine n l) (past_end text) ls a) both.1 h.fault) k.fault

cells_not : (signals : ℕ) (text : List ℕ) (line product cycles : ℕ) (left : List Line) → IsCellsFault signals text line product → HasFittingFront signals text cycles left → ⊥
cells_not signals text line product cycles left h k =
    let same = same_front text line k.number h.cycles cycles h.lines left h.front k.front in
    omega (arith, h.many, h.is_product, ap (block_count signals) same.1, k.few)

row_row : (names : List (List ℕ)) (signals : ℕ) (text : List ℕ) (a b : DumpRefusal) (m n : ℕ) → HasOwnNames names → RowBroken names signals text a m → RowBroken names signals text b n → (a ≢ NoMemory) → (b ≢ NoMemory) → a ≡ b
row_row names signals text a b m n own h k some other =
    let x = h.first in
    let y = k.first in
    let front = same_front text h.front.number k.front.number h.cycles k.cycles h.lines k.lines h.front.front k.front.front in
    let read_y : StateRows names h.cycles y.before y.said = subst (λ t. StateRows names t y.before y.said) (sym front.1) y.say in
    let fault_y : IsRowRefusal names h.cycles y.said n y.bad b = subst (λ t. IsRowRefusal names t y.said n y.bad b) (sym front.1) y.fault in
    elim (part x.before y.before x.after y.after (m, x.bad) (n, y.bad) (sym x.whole ∙ front.2 ∙ y.whole)) [
      | inl same ↦
          let bad : x.bad ≡ y.bad = ap (λ (l : Line). l.1) same.1 in
          let at : m ≡ n = ap (λ (l : Line). l.0) same.1 in
          let rows : x.said ≡ y.said = same_rows names h.cycles y.before x.said y.said own (subst (λ (ls : List Line). State names h.cycles ls x.said) same.0 x.say.each) read_y.each in
          let fault_x : IsRowRefusal names h.cycles y.said n y.bad a =
          subst (λ (rs : List Row). IsRowRefusal names h.cycles rs n y.bad a) rows (subst (λ (t : List ℕ). IsRowRefusal names h.cycles x.said n t a) bad (subst (λ l. IsRowRefusal names h.cycles x.said l x.bad a) at x.fault)) in
          row_once names h.cycles y.said n y.bad a b own fault_x fault_y some other
      | inr (inl on) ↦ absurd (not_read names h.cycles y.before x.before on.0 (m, x.bad) x.said y.said a m own x.say read_y on.1 x.fault some)
      | inr (inr on) ↦ absurd (not_read names h.cycles x.before y.before on.0 (n, y.bad) y.said x.said b n own read_y x.say on.1 fault_y other)
    ]

-- ---- the laws

once : (names : List (List ℕ)) (signals : ℕ) (text : List ℕ) (a b : DumpRefusal) → HasOwnNames names → Broken names signals text a → Broken names signals text b → (a ≢ NoMemory) → (b ≢ NoMemory) → a ≡ b
once names signals text a b own (at_head m h) (at_head n k) some other = ap Head (fails_once IsHead (past_end text) (numbered text) m n h k)
once names signals text a b own (at_head m h) (at_cycles n k) some other = absurd (head_not_cycles text m n h k)
once names signals text a b own (at_head m h) (at_cells n p k) some other = absurd (head_not text m n k.cycles k.lines h k.front)
once names signals text a b own (at_head m h) (at_row e n k) some other = absurd (head_not text m k.front.number k.cycles k.lines h k.front.front)
once names signals text a b own (at_cycles m h) (at_head n k) some other = absurd (head_not_cycles text n m k h)
once names signals text a b own (at_cycles m h) (at_cycles n k) some other = ap Cycles (cycles_once text m n h k)
once names signals text a b own (at_cycles m h) (at_cells n p k) some other = absurd (cycles_not text m n k.cycles k.lines h k.front)
once names signals text a b own (at_cycles m h) (at_row e n k) some other = absurd (cycles_not text m k.front.number k.cycles k.lines h k.front.front)
once names signals text a b own (at_cells m p h) (at_head n k) some other = absurd (head_not text n m h.cycles h.lines k h.front)
once names signals text a b own (at_cells m p h) (at_cycles n k) some other = absurd (cycles_not text n m h.cycles h.lines k h.front)
once names signals text a b own (at_cells m p h) (at_cells n q k) some other =
    let same = same_front text m n h.cycles k.cycles h.lines k.lines h.front k.front in
    ap (λ l. TooManyCells l p) same.0 ∙ ap (TooManyCells n) (h.is_product ∙ ap (block_count signals) same.1 ∙ sym k.is_product)
once names signals text a b own (at_cells m p h) (at_row e n k) some other = absurd (cells_not signals text m p k.cycles k.lines h k.front)
once names signals text a b own (at_row e m h) (at_head n k) some other = absurd (head_not text n h.front.number h.cycles h.lines k h.front.front)
once names signals text a b own (at_row e m h) (at_cycles n k) some other = absurd (cycles_not text n h.front.number h.cycles h.lines k h.front.front)
once names signals text a b own (at_row e m h) (at_cells n p k) some other = absurd (cells_not signals text n p h.cycles h.lines k h.front)
once names signals text a b own (at_row e m h) (at_row f n k) some other = row_row names signals text e f m n own h k some other

pub one_refusal : IsRefusedOnce
one_refusal c text a b circuit h k some other =
    once c.names (length c.drivers) text a b circuit.distinct (broken c.names (length c.drivers) text a h some) (broken c.names (length c.drivers) text b k other) some other

read_not : (names : List (List ℕ)) (signals : ℕ) (text : List ℕ) (r : Recording) (e : DumpRefusal) → HasOwnNames names → Spells names signals text r → Broken names signals text e → (e ≢ NoMemory) → ⊥
read_not names signals text r e own h (at_head n k) some = head_not text n h.front.number r.cycles h.lines k h.front.front
read_not names signals text r e own h (at_cycles n k) some = cycles_not text n h.front.number r.cycles h.lines k h.front.front
read_not names signals text r e own h (at_cells n p k) some = cells_not signals text n p r.cycles h.lines k h.front
read_not names signals text r e own h (at_row f n k) some =
    let front = same_front text h.front.number k.front.number r.cycles k.cycles h.lines k.lines h.front.front k.front.front in
    let y = k.first in
    not_read names k.cycles h.lines y.before y.after (n, y.bad) y.said r.rows f n own y.say (subst (λ t. StateRows names t h.lines r.rows) front.1 h.rows) (front.2 ∙ y.whole) y.fault some

pub not_both : DumpsAreNotRefused
not_both c text r NoMemory circuit h k = refl
not_both c text r (Head line) circuit h k = absurd (read_not c.names (length c.drivers) text r (Head line) circuit.distinct h (broken c.names (length c.drivers) text (Head line) k (λ e. cc)) (λ e. cc))
not_both c text r (Cycles line) circuit h k = absurd (read_not c.names (length c.drivers) text r (Cycles line) circuit.distinct h (broken c.names (length c.drivers) text (Cycles line) k (λ e. cc)) (λ e. cc))
not_both c text r (TooManyCells line p) circuit h k = absurd (read_not c.names (length c.drivers) text r (TooManyCells line p) circuit.distinct h (broken c.names (length c.drivers) text (TooManyCells line p) k (λ e. cc)) (λ e. cc))
not_both c text r (RowSyntax line) circuit h k = absurd (read_not c.names (length c.drivers) text r (RowSyntax line) circuit.distinct h (broken c.names (length c.drivers) text (RowSyntax line) k (λ e. cc)) (λ e. cc))
not_both c text r (UnknownSignal line) circuit h k = absurd (read_not c.names (length c.drivers) text r (UnknownSignal line) circuit.distinct h (broken c.names (length c.drivers) text (UnknownSignal line) k (λ e. cc)) (λ e. cc))
not_both c text r (TwiceNamed line) circuit h k = absurd (read_not c.names (length c.drivers) text r (TwiceNamed line) circuit.distinct h (broken c.names (length c.drivers) text (TwiceNamed line) k (λ e. cc)) (λ e. cc))
not_both c text r (RowLength line) circuit h k = absurd (read_not c.names (length c.drivers) text r (RowLength line) circuit.distinct h (broken c.names (length c.drivers) text (RowLength line) k (λ e. cc)) (λ e. cc))
not_both c text r (BadBit line) circuit h k = absurd (read_not c.names (length c.drivers) text r (BadBit line) circuit.distinct h (broken c.names (length c.drivers) text (BadBit line) k (λ e. cc)) (λ e. cc))
