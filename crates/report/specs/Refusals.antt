-- The line of each refusal.
use Rattle.std.specs.Prelude.{ℕ, ◌≡◌, ◌<◌, ◌==◌, ⊤, List, [], ◌∷◌, ◌++◌, codes, get_or, length}
use Rattle.std.specs.List.{before_first, after_first, slice_split}
use Rattle.std.specs.Fmt.{decimal}
use Rattle.report.specs.declared.refusal.WordRefusal.{WordRefusal}
use Rattle.report.specs.declared.refusal.WordRefusal.TheVariants as word_refusals
use Rattle.report.specs.declared.refusal.Refusal.{Refusal}
use Rattle.report.specs.declared.refusal.Refusal.TheVariants as refusals
use Rattle.report.specs.InputRefusals.{bench_line, cert_line, dump_line, fault_line, net_line, no_memory_line, too_long_line}

-- ---- words `key=value`

-- the word has the form `key=value`
abbrev pub IsKeyed : List ℕ → Type 0
IsKeyed word = (key value : List ℕ) × (word ≡ key ++ 61 ∷ value)

-- the key ends at the first `=`
abbrev pub key_of : List ℕ → List ℕ
key_of word = before_first (λ b. b == 61) word

-- commas part the names that are the value of a word
abbrev pub listed_names : List ℕ → List (List ℕ)
listed_names word = slice_split (λ b. b == 44) (after_first (λ b. b == 61) word)

abbrev pub word_at : List (List ℕ) → ℕ → List ℕ
word_at words place = get_or words place []

abbrev pub item_of : List (List ℕ) → (place item : ℕ) → List ℕ
item_of words place item = get_or (listed_names (word_at words place)) item []

-- ---- what has to be there

-- at the place stands a word of that form
pub record HasKey (words : List (List ℕ)) (place : ℕ) : Type 0 where
  pub placed : place < length words
  pub keyed : IsKeyed (word_at words place)

-- and among the names that are its value is this item
pub record HasItem (words : List (List ℕ)) (place item : ℕ) : Type 0 where
  pub key : HasKey words place
  pub there : item < length (listed_names (word_at words place))

abbrev pub WordIsThere : List (List ℕ) → WordRefusal → Type 0
WordIsThere words word_refusals.Usage = ⊤
WordIsThere words (word_refusals.Number place) = HasKey words place

-- each place and each item of a refusal is there
abbrev pub AreThere : List (List ℕ) → Refusal → Type 0
AreThere words (refusals.Words refusal) = WordIsThere words refusal
AreThere words (refusals.TraceUnknown place item) = HasItem words place item
AreThere words (refusals.TraceTwice place item) = HasItem words place item
AreThere words _ = ⊤

-- ---- the lines

abbrev pub word_line : List (List ℕ) → WordRefusal → List ℕ
word_line words word_refusals.Usage = codes "srestore: words: 22 usage\n"
word_line words (word_refusals.Number place) = codes "srestore: words: 23 number " ++ key_of (word_at words place) ++ codes "\n"

-- a name is that of no signal, or stands twice
abbrev pub unknown_trace_line : List ℕ → List ℕ
unknown_trace_line name = codes "srestore: words: 26 unknown trace " ++ name ++ codes "\n"

abbrev pub trace_twice_line : List ℕ → List ℕ
trace_twice_line name = codes "srestore: words: 27 trace twice " ++ name ++ codes "\n"

abbrev pub many_cells_line : ℕ → List ℕ
many_cells_line product = codes "srestore: words: 17 too many cells " ++ decimal product ++ codes "\n"

abbrev pub width_over_line : ℕ → List ℕ
width_over_line flip_flops = codes "srestore: words: 25 width over " ++ decimal flip_flops ++ codes "\n"

abbrev pub refusal_line : List (List ℕ) → Refusal → List ℕ
refusal_line words (refusals.Bench refusal) = bench_line refusal
refusal_line words (refusals.Net refusal) = net_line refusal
refusal_line words (refusals.Dumped refusal) = dump_line refusal
refusal_line words (refusals.Cert refusal) = cert_line refusal
refusal_line words (refusals.Words refusal) = word_line words refusal
refusal_line words (refusals.TooLong part) = too_long_line part
refusal_line words (refusals.Fault part) = fault_line part
refusal_line words (refusals.CellsByWords product) = many_cells_line product
refusal_line words (refusals.WidthOver flip_flops) = width_over_line flip_flops
refusal_line words (refusals.TraceUnknown place item) = unknown_trace_line (item_of words place item)
refusal_line words (refusals.TraceTwice place item) = trace_twice_line (item_of words place item)
refusal_line words refusals.NoMemory = no_memory_line
