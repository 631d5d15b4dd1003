-- A line states a further row, or is bad in some way.
use Rattle.std.proofs.Common.{◌≡◌, ◌≢◌, ◌⊎◌, ℕ, suc, List, [], ◌∷◌, length, map, Bool, eqb, is_some, Option, Some, None, refl, sym, ap, subst, ◌∙◌, inl, inr}
use Rattle.std.specs.Prelude.{Contains, IsSome}
use Rattle.std.specs.List.{All, slice_get}
use Rattle.std.proofs.lemmas.Bool.{cases_Bool, cases_eq, true≢false}
use Rattle.std.proofs.lemmas.List.Elements.{All-head, All-tail}
use Rattle.std.proofs.lemmas.Slice.Eq.{bytes_eq-Decides}
use Rattle.std.specs.Cmp.Lexicographic.{pointwise}
use Rattle.sr_model.proofs.lemmas.Members.{not_in_nil, Contains-cases, Contains-here, Contains-there}
use Rattle.sr_model.specs.declared.cells.Sig.{Sig}
use Rattle.sr_model.specs.Dump.{Row}
use Rattle.dump_reader.specs.declared.refusal.DumpRefusal.{DumpRefusal}
use Rattle.dump_reader.specs.declared.refusal.DumpRefusal.TheVariants.{RowSyntax, UnknownSignal, TwiceNamed, RowLength, BadBit, NoMemory}
use Rattle.dump_reader.specs.Recording.{recorded}
use Rattle.dump_reader.specs.Grammar.{NamesSignal, StatesRow, bit_read}
use Rattle.dump_reader.specs.Refusal.{IsRowRefusal}
use Rattle.dump_reader.proofs.Tokens.{two_or_none}

pub same_or_other : (a b : List ℕ) → (a ≡ b) ⊎ (a ≡ b → ⊥)
same_or_other a b =
    elim (cases_Bool (pointwise eqb a b)) [
      | inl same ↦ inl ((bytes_eq-Decides a b).0 same)
      | inr fails ↦ inr (λ e. true≢false (sym ((bytes_eq-Decides a b).1 e) ∙ fails))
    ]

place_or_none : (names : List (List ℕ)) (name : List ℕ) → ((i : ℕ) × (slice_get names i ≡ Some name)) ⊎ (Contains names name → ⊥)
place_or_none [] name = inr (not_in_nil name)
place_or_none (first ∷ names) name =
    elim (same_or_other first name) [
      | inl same ↦ inl (0, ap (λ (n : List ℕ). Some n) same)
      | inr other ↦ elim (place_or_none names name) [
        | inl (i, is) ↦ inl (suc i, is)
        | inr none ↦ inr (λ member. elim (Contains-cases first names name member) [ inl same ↦ other same | inr later ↦ none later ])
      ]
    ]

sig_or_none : (sigs : List Sig) (sig : Sig) → Contains sigs sig ⊎ (Contains sigs sig → ⊥)
sig_or_none [] sig = inr (not_in_nil sig)
sig_or_none (first ∷ sigs) sig =
    elim (cases_eq first.0 sig.0) [
      | inl same ↦ inl (subst (Contains (first ∷ sigs)) (ap (λ (n : ℕ). let s : Sig = record { 0 = n } in s) same) (Contains-here first sigs))
      | inr other ↦ elim (sig_or_none sigs sig) [
        | inl later ↦ inl (Contains-there first sigs sig later)
        | inr none ↦ inr (λ member. elim (Contains-cases first sigs sig member) [ inl same ↦ other (ap (λ (s : Sig). s.0) same) | inr later ↦ none later ])
      ]
    ]

-- the bits of some characters, if each is one
abbrev AreBits : List ℕ → Type 0
AreBits characters = (bits : List (Option Bool)) × (map bit_read characters ≡ map (λ (bit : Option Bool). Some bit) bits)

with_bit : (c : ℕ) (cs : List ℕ) (read : Option (Option Bool)) → bit_read c ≡ read → AreBits cs → IsSome read → AreBits (c ∷ cs)
with_bit c cs None e bits some = absurd cc
with_bit c cs (Some bit) e bits some = (bit ∷ bits.0, ap (λ x. x ∷ map bit_read cs) e ∙ ap (λ (xs : List (Option (Option Bool))). Some bit ∷ xs) bits.1)

bits_or_none : (characters : List ℕ) → AreBits characters ⊎ (All (λ c. IsSome (bit_read c)) characters → ⊥)
bits_or_none [] = inl ([], refl)
bits_or_none (c ∷ cs) =
    elim (cases_Bool (is_some (bit_read c))) [
      | inr none ↦ inr (λ all. true≢false (sym (All-head (λ x. IsSome (bit_read x)) c cs all) ∙ none))
      | inl some ↦ elim (bits_or_none cs) [
        | inl bits ↦ inl (with_bit c cs (bit_read c) refl bits some)
        | inr none ↦ inr (λ all. none (All-tail (λ x. IsSome (bit_read x)) c cs all))
      ]
    ]

abbrev pub RowOrBad : List (List ℕ) → ℕ → List Row → ℕ → List ℕ → Type 0
RowOrBad names cycles rows number text =
    ((row : Row) × StatesRow names cycles text row × (Contains (recorded rows) row.sig → ⊥)) ⊎ ((e : DumpRefusal) × IsRowRefusal names cycles rows number text e × (e ≢ NoMemory))

named_row : (names : List (List ℕ)) (cycles : ℕ) (rows : List Row) (number : ℕ) (text characters : List ℕ) (sig : Sig) → NamesSignal names text sig characters → (Contains (recorded rows) sig → ⊥) → RowOrBad names cycles rows number text
named_row names cycles rows number text characters sig is new =
    elim (cases_eq (length characters) cycles) [
      | inr differ ↦ inr (RowLength number, (refl, (characters, (sig, is, new), differ)), λ other. cc)
      | inl full ↦ elim (bits_or_none characters) [
        | inr none ↦ inr (BadBit number, (refl, (characters, (sig, is, new), full, none)), λ other. cc)
        | inl (bits, read) ↦ inl (record { sig = sig; bits = bits }, record { characters = characters; names_signal = is; full = full; bits = read }, new)
      ]
    ]

pub row_or_bad : (names : List (List ℕ)) (cycles : ℕ) (rows : List Row) (number : ℕ) (text : List ℕ) → RowOrBad names cycles rows number text
row_or_bad names cycles rows number text =
    elim (two_or_none text) [
      | inr none ↦ inr (RowSyntax number, (refl, none), λ other. cc)
      | inl (name, characters, tokens) ↦ elim (place_or_none names name) [
        | inr unknown ↦ inr (UnknownSignal number, (refl, (name, characters, tokens, unknown)), λ other. cc)
        | inl (place, at) ↦
            let sig : Sig = record { 0 = place } in
            let is : NamesSignal names text sig characters = record { name = name; tokens = tokens; is_name = at } in
            elim (sig_or_none (recorded rows) sig) [
              | inl again ↦ inr (TwiceNamed number, (refl, (sig, characters, is, again)), λ other. cc)
              | inr new ↦ named_row names cycles rows number text characters sig is new
            ]
      ]
    ]
