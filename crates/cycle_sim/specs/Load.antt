-- The load netlist of a number: inputs, flip-flops and gates, whose kinds and pins are drawn from the number.
use Rattle.std.specs.Prelude.{ℕ, zero, suc, ◌≡◌, ◌+◌, ◌-◌, ◌/◌, ◌%◌, ◌≤◌, List, [], ◌∷◌, ◌++◌, map, codes, slice_index_or}
use Rattle.std.specs.Fmt.{decimal}
use Rattle.std.specs.List.{enumerate_from, range_with_len}
use Rattle.sr_model.specs.declared.gates.Kind.{Kind}
use Rattle.sr_model.specs.declared.gates.Kind.TheVariants.{And, Nand, Or, Nor, Xor, Xnor, Not, Buf, Dff}
use Rattle.sr_model.specs.declared.statements.Numbered.{Numbered}
use Rattle.sr_model.specs.Declaration.{Declaration, InputNamed, OutputNamed, DriverNamed, declarations_of}
use Rattle.sr_model.specs.Limits.{max_signals}
use Rattle.sr_model.specs.Room.{WithRoom}
use Rattle.netlist.specs.declared.checks.NetRefusal.{NetRefusal}
use Rattle.netlist.specs.declared.checks.NetRefusal.TheVariants.{NoMemory}
use Rattle.netlist.specs.Checks.{IsRefusal}
use Rattle.cycle_sim.specs.Words.{word_at}

-- how many signals a load netlist may have
abbrev pub IsLoadSize : ℕ → Type 0
IsLoadSize signals = (16 ≤ signals) × (signals ≤ max_signals)

-- the name of the signal with this index: n and the index
abbrev pub load_name : ℕ → List ℕ
load_name index = codes "n" ++ decimal index

-- The signals with the least indexes are inputs, the next are flip-flops, and all others are gates.
abbrev pub input_count : ℕ → ℕ
input_count signals = signals / 16

abbrev pub flip_flop_count : ℕ → ℕ
flip_flop_count signals = signals / 8

abbrev pub first_gate : ℕ → ℕ
first_gate signals = input_count signals + flip_flop_count signals

abbrev pub gate_count : ℕ → ℕ
gate_count signals = signals - first_gate signals

-- word n of the number, counted from 0: that of stream 2, with the number as its seed
abbrev pub load_word : ℕ → ℕ → ℕ
load_word number n = word_at 2 number n

-- the kinds of gate, by the remainder of a word by 8
abbrev pub gate_kinds : List Kind
gate_kinds = And ∷ Nand ∷ Or ∷ Nor ∷ Xor ∷ Xnor ∷ Not ∷ Buf ∷ []

abbrev pub kind_drawn : ℕ → Kind
kind_drawn word = slice_index_or gate_kinds (word % 8) And

-- how many pins are drawn for a kind
abbrev pub drawn_pin_count : Kind → ℕ
drawn_pin_count Not = 1
drawn_pin_count Buf = 1
drawn_pin_count Dff = 1
drawn_pin_count _ = 2

-- the names of the pins that so many words draw, from word `first` on: the index of each is its word's remainder by the bound
abbrev pub pins_drawn : ℕ → ℕ → ℕ → ℕ → List (List ℕ)
pins_drawn number first count bound = map (λ n. load_name (load_word number n % bound)) (range_with_len first count)

-- the gate or flip-flop that drives the signal with this index, with the pins that are drawn from word `first` on
abbrev pub drawn_driver : ℕ → ℕ → ℕ → Kind → ℕ → Declaration
drawn_driver number first bound kind index = DriverNamed (load_name index) kind (pins_drawn number first (drawn_pin_count kind) bound)

-- the gate whose first word is word `first`, for the signal with this index: that word draws its kind, and the next ones draw its pins, each with a lesser index
abbrev pub drawn_gate : ℕ → ℕ → ℕ → Declaration
drawn_gate number first index = drawn_driver number (first + 1) index (kind_drawn (load_word number first)) index

-- how many words that gate takes: one for its kind, and one for each pin
abbrev pub gate_words : ℕ → ℕ → ℕ
gate_words number first = 1 + drawn_pin_count (kind_drawn (load_word number first))

-- the first word of gate i, counted from 0: the one behind the words of the gates before it
unfoldable pub gate_start : ℕ → ℕ → ℕ
gate_start number zero = 0
gate_start number (suc i) = gate_start number i + gate_words number (gate_start number i)

-- gate i
abbrev pub load_gate : ℕ → ℕ → ℕ → Declaration
load_gate number signals i = drawn_gate number (gate_start number i) (first_gate signals + i)

-- flip-flop i, counted from 0: behind the words of all gates it takes word i, and its pin is any signal
abbrev pub load_flip_flop : ℕ → ℕ → ℕ → Declaration
load_flip_flop number signals i = drawn_driver number (gate_start number (gate_count signals) + i) signals Dff (input_count signals + i)

-- the inputs, the gates and the flip-flops, each by ascending index, and one output, which is the last signal
abbrev pub load_statements : ℕ → ℕ → List Declaration
load_statements number signals =
    map (λ i. InputNamed (load_name i)) (range_with_len 0 (input_count signals))
    ++ map (load_gate number signals) (range_with_len 0 (gate_count signals))
    ++ map (load_flip_flop number signals) (range_with_len 0 (flip_flop_count signals))
    ++ OutputNamed (load_name (signals - 1)) ∷ []

-- the statements declare these in this order, each on a line of its own from line 1
abbrev pub AreOnLines : List Declaration → WithRoom Numbered → Type 0
AreOnLines ds statements = declarations_of statements ≡ enumerate_from 1 ds

-- no rule of netlists refuses the statements: the one refusal that they can meet is want of memory
abbrev pub KeepsAllRules : WithRoom Numbered → Type 0
KeepsAllRules statements = (refusal : NetRefusal) → IsRefusal (declarations_of statements) refusal → refusal ≡ NoMemory
