-- The row that a line states.
use Rattle.std.proofs.Common.{◌≡◌, ◌↔◌, ℕ, Bool, false, List, [], ◌∷◌, length, map, Option, Some, refl, sym, ap, ◌∙◌}
use Rattle.std.specs.Prelude.{IsTrue}
use Rattle.std.specs.List.{slice_get}
use Rattle.std.proofs.lemmas.Bool.{true≢false}
use Rattle.sr_model.specs.declared.cells.Sig.{Sig}
use Rattle.dump_reader.specs.declared.dump.Tri.{Tri}
use Rattle.dump_reader.specs.Recording.{tri_bit, row_of}
use Rattle.dump_reader.specs.Grammar.{NamesSignal, StatesRow, bit_read}
use Rattle.dump_reader.proofs.Front.{AreTokens, tokens_from}

pub names_it : (names : List (List ℕ)) (text name characters : List ℕ) (sig : Sig) → AreTokens text name characters → slice_get names sig.0 ≡ Some name → NamesSignal names text sig characters
names_it names text name characters sig are is = record { name = name; tokens = tokens_from text name characters are; is_name = is }

pub fresh : {b : Bool} {P : Type 0} → (IsTrue b ↔ P) → b ≡ false → P → ⊥
fresh {b} both fails h = true≢false (sym (both.1 h) ∙ fails)

map_twice : (cells : List Tri) → map (λ (cell : Tri). Some (tri_bit cell)) cells ≡ map (λ (bit : Option Bool). Some bit) (map tri_bit cells)
map_twice [] = refl
map_twice (cell ∷ cells) = ap (λ (bits : List (Option (Option Bool))). Some (tri_bit cell) ∷ bits) (map_twice cells)

pub states : (names : List (List ℕ)) (cycles : ℕ) (text name characters : List ℕ) (sig : Sig) (cells : List Tri) → AreTokens text name characters → slice_get names sig.0 ≡ Some name → length characters ≡ cycles
    → map bit_read characters ≡ map (λ (cell : Tri). Some (tri_bit cell)) cells → StatesRow names cycles text (row_of sig cells)
states names cycles text name characters sig cells are is len bits =
    record { characters = characters; names_signal = names_it names text name characters sig are is; full = len; bits = bits ∙ map_twice cells }
