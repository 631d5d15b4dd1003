-- What has been read of a text, line by line.
use Rattle.std.proofs.Common.{◌≡◌, ◌≢◌, ℕ, Bool, List, [], ◌∷◌, ◌++◌, length, map, Option, Some, sym, ap, subst, ◌∙◌, append_assoc, arith}
use Rattle.std.specs.Prelude.{Contains}
use Rattle.std.specs.List.{AllPairs}
use Rattle.std.proofs.lemmas.List.{append-nil, map-append, length-map}
use Rattle.std.proofs.lemmas.List.Elements.{Contains-get_or}
use Rattle.std.proofs.lemmas.List.Quantifiers.{all_pairs_push}
use Rattle.std.proofs.lemmas.Slice.Zip.{all_zipped_more}
use Rattle.sr_model.specs.declared.cells.Sig.{Sig}
use Rattle.sr_model.specs.Dump.{Row}
use Rattle.dump_reader.specs.declared.refusal.DumpRefusal.{DumpRefusal}
use Rattle.dump_reader.specs.declared.refusal.DumpRefusal.TheVariants.{Head, Cycles, TooManyCells, RowSyntax, UnknownSignal, TwiceNamed, RowLength, BadBit, NoMemory}
use Rattle.dump_reader.specs.declared.dump.Tri.{Tri}
use Rattle.dump_reader.specs.Recording.{Recording, recorded, tri_bit, row_of}
use Rattle.sr_text.specs.Lines.{numbered, past_end}
use Rattle.dump_reader.specs.Grammar.{IsCyclesLine, FailsFirst, HasFittingFront, StatesRow, StateRows, Spells, IsRowFault, bit_read}
use Rattle.dump_reader.specs.Reading.{ReadsHead, ReadsCycles, IsCyclesRefusal}
use Rattle.dump_reader.specs.Refusal.{IsRefusal, IsRowRefusal}

-- the text's front and some lines state this recording, and these lines are left
pub record HasRead (names : List (List ℕ)) (signals : ℕ) (text : List ℕ) (r : Recording) (left : List (ℕ × List ℕ)) : Type 0 where
  pub before : List (ℕ × List ℕ)
  pub front : HasFittingFront signals text r.cycles (before ++ left)
  pub rows : StateRows names r.cycles before r.rows

no_pairs : AllPairs (λ (a b : Sig). a ≢ b) []
no_pairs i j d lt within = absurd (omega (arith, within))

pub starts : (names : List (List ℕ)) (signals : ℕ) (text : List ℕ) (first second left : List (ℕ × List ℕ)) (cycles : ℕ) (r : Recording) → first ≡ numbered text → ReadsHead first second → ReadsCycles signals cycles second left
    → r.cycles ≡ cycles → r.rows ≡ [] → HasRead names signals text r left
starts names signals text first second left cycles r is head count e none =
    let line : ℕ × List ℕ = count.0 in
    let front : HasFittingFront signals text cycles left = record {
      number = line.0;
      front = record {
        head = head.0;
        cycles_line = line.1;
        whole = sym is ∙ head.1 ∙ ap (λ (lines : List (ℕ × List ℕ)). head.0 ∷ lines) count.1;
        is_head = head.2;
        is_cycles_line = count.2;
      };
      few = count.3;
    } in
    record {
      before = [];
      front = subst (λ n. HasFittingFront signals text n left) (sym e) front;
      rows = subst (StateRows names r.cycles []) (sym none) (record { each = tt; once = no_pairs });
    }

pub more : (names : List (List ℕ)) (signals : ℕ) (text : List ℕ) (r s : Recording) (number : ℕ) (line : List ℕ) (left rest : List (ℕ × List ℕ)) (row : Row) → HasRead names signals text r left → left ≡ (number, line) ∷ rest
    → StatesRow names r.cycles line row → (Contains (recorded r.rows) row.sig → ⊥) → s.cycles ≡ r.cycles → s.rows ≡ r.rows ++ row ∷ [] → HasRead names signals text s rest
more names signals text r s number line left rest row read is states fresh e longer =
    let grown : List (ℕ × List ℕ) = read.before ++ (number, line) ∷ [] in
    let lines : read.before ++ left ≡ grown ++ rest = ap (λ (ls : List (ℕ × List ℕ)). read.before ++ ls) is ∙ sym (append_assoc read.before ((number, line) ∷ []) rest) in
    let front : HasFittingFront signals text r.cycles (grown ++ rest) = subst (HasFittingFront signals text r.cycles) lines read.front in
    let sigs : recorded (r.rows ++ row ∷ []) ≡ recorded r.rows ++ row.sig ∷ [] = map-append (λ (x : Row). x.sig) r.rows (row ∷ []) in
    let once : AllPairs (λ (a b : Sig). a ≢ b) (recorded r.rows ++ row.sig ∷ []) =
    all_pairs_push (λ (a b : Sig). a ≢ b) (recorded r.rows) row.sig read.rows.once (λ k d lt same. fresh (subst (Contains (recorded r.rows)) same (Contains-get_or (recorded r.rows) k d lt))) in
    let rows : StateRows names r.cycles grown (r.rows ++ row ∷ []) = record {
      each = all_zipped_more (λ (l : ℕ × List ℕ) (x : Row). StatesRow names r.cycles l.1 x) read.before r.rows (number, line) row read.rows.each states;
      once = subst (AllPairs (λ (a b : Sig). a ≢ b)) (sym sigs) once;
    } in
    record {
      before = grown;
      front = subst (λ n. HasFittingFront signals text n (grown ++ rest)) (sym e) front;
      rows = subst (λ n. StateRows names n grown s.rows) (sym e) (subst (StateRows names r.cycles grown) (sym longer) rows);
    }

pub all_read : (names : List (List ℕ)) (signals : ℕ) (text : List ℕ) (r : Recording) (left : List (ℕ × List ℕ)) → HasRead names signals text r left → left ≡ [] → Spells names signals text r
all_read names signals text r left read none = record {
  lines = read.before;
  front = subst (HasFittingFront signals text r.cycles) (ap (λ (ls : List (ℕ × List ℕ)). read.before ++ ls) none ∙ append-nil read.before) read.front;
  rows = read.rows;
}

row_fault : (IsFault : ℕ → List Row → List ℕ → Type 0) (names : List (List ℕ)) (signals : ℕ) (text : List ℕ) (r : Recording) (number at : ℕ) (line : List ℕ) (left rest : List (ℕ × List ℕ)) → HasRead names signals text r left
    → left ≡ (number, line) ∷ rest → at ≡ number → IsFault r.cycles r.rows line → IsRowFault IsFault names signals text at
row_fault IsFault names signals text r number at line left rest read is same fault = subst (IsRowFault IsFault names signals text) (sym same) (record {
  cycles = r.cycles;
  lines = read.before ++ left;
  front = read.front;
  first = record { before = read.before; bad = line; after = rest; whole = ap (λ (ls : List (ℕ × List ℕ)). read.before ++ ls) is; said = r.rows; say = read.rows; fault = fault };
})

pub row_refused : (names : List (List ℕ)) (signals : ℕ) (text : List ℕ) (r : Recording) (number : ℕ) (line : List ℕ) (left rest : List (ℕ × List ℕ)) (e : DumpRefusal) → HasRead names signals text r left → left ≡ (number, line) ∷ rest
    → IsRowRefusal names r.cycles r.rows number line e → IsRefusal names signals text e
row_refused names signals text r number line left rest (Head at) read is refused = absurd refused
row_refused names signals text r number line left rest (Cycles at) read is refused = absurd refused
row_refused names signals text r number line left rest (TooManyCells at product) read is refused = absurd refused
row_refused names signals text r number line left rest (RowSyntax at) read is refused = row_fault _ names signals text r number at line left rest read is refused.0 refused.1
row_refused names signals text r number line left rest (UnknownSignal at) read is refused = row_fault _ names signals text r number at line left rest read is refused.0 refused.1
row_refused names signals text r number line left rest (TwiceNamed at) read is refused = row_fault _ names signals text r number at line left rest read is refused.0 refused.1
row_refused names signals text r number line left rest (RowLength at) read is refused = row_fault _ names signals text r number at line left rest read is refused.0 refused.1
row_refused names signals text r number line left rest (BadBit at) read is refused = row_fault _ names signals text r number at line left rest read is refused.0 refused.1
row_refused names signals text r number line left rest NoMemory read is refused = tt

pub cycles_refused : (names : List (List ℕ)) (signals : ℕ) (text : List ℕ) (past : ℕ) (lines rest : List (ℕ × List ℕ)) (e : DumpRefusal) → lines ≡ numbered text → past ≡ past_end text → ReadsHead lines rest → IsCyclesRefusal signals past rest e
    → IsRefusal names signals text e
cycles_refused names signals text past lines rest (Cycles at) is last head refused = record {
  head = head.0;
  lines = rest;
  whole = sym is ∙ head.1;
  is_head = head.2;
  fault = subst (λ n. FailsFirst (λ line. (cycles : ℕ) × IsCyclesLine cycles line) n rest at) last refused;
}
cycles_refused names signals text past lines rest (TooManyCells at product) is last head refused = record {
  cycles = refused.0;
  lines = refused.2;
  front = record {
    head = head.0;
    cycles_line = refused.1;
    whole = sym is ∙ head.1 ∙ ap (λ (ls : List (ℕ × List ℕ)). head.0 ∷ ls) refused.3;
    is_head = head.2;
    is_cycles_line = refused.4;
  };
  is_product = refused.5;
  many = refused.6;
}
cycles_refused names signals text past lines rest NoMemory is last head refused = tt
cycles_refused names signals text past lines rest _ is last head refused = absurd refused

-- a row that a line states has a cell for each cycle
pub states_full : (names : List (List ℕ)) (cycles : ℕ) (line : List ℕ) (sig : Sig) (cells : List Tri) → StatesRow names cycles line (row_of sig cells) → length cells ≡ cycles
states_full names cycles line sig cells states =
    omega (arith, states.full, ap (λ (xs : List (Option (Option Bool))). length xs) states.bits, length-map states.characters bit_read, length-map (map tri_bit cells) (λ (bit : Option Bool). Some bit), length-map cells tri_bit)
