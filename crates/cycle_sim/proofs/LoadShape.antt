-- What each statement of a load netlist is, and what they drive.
use Rattle.std.proofs.Common.{ℕ, zero, suc, ◌≡◌, ◌≢◌, ◌⊎◌, ◌+◌, ◌-◌, ◌%◌, ◌<◌, ◌≤◌, true, false, not, List, [], ◌∷◌, ◌++◌, length, get_or, map, inl, inr, refl, sym, ap, subst, ◌∙◌, arith}
use Rattle.std.specs.List.{All, AllPairs, Contains, flat_map, range_with_len}
use Rattle.std.proofs.lemmas.Bool.{cases_Bool, cases_lt, true≢false}
use Rattle.std.proofs.lemmas.List.{append-nil, length-append}
use Rattle.std.proofs.lemmas.List.Concat.{flat_map-append}
use Rattle.std.proofs.lemmas.List.Elements.{All-append, Contains-append_left, Contains-append_right, Contains-append_cases}
use Rattle.std.proofs.lemmas.List.Folds.{list_all_at}
use Rattle.std.proofs.lemmas.List.FromFn.{length-map-range_with_len}
use Rattle.sr_model.specs.declared.gates.Kind.{Kind}
use Rattle.sr_model.specs.declared.gates.Kind.TheVariants.{And, Not, Buf, Dff}
use Rattle.sr_model.specs.Declaration.{Declaration, InputNamed, OutputNamed, DriverNamed}
use Rattle.sr_model.specs.Gate.{IsPinCount, is_flip_flop_kind}
use Rattle.sr_model.proofs.lemmas.Members.{Contains-map, All-one, map-member}
use Rattle.netlist.specs.Numbering.{driven_name}
use Rattle.unroll.proofs.lemmas.FlatMaps.{AllPairs-join}
use Rattle.cycle_sim.specs.Load.{IsLoadSize, load_name, load_word, input_count, flip_flop_count, first_gate, gate_count, gate_kinds, kind_drawn, drawn_pin_count, pins_drawn, gate_start, load_gate, load_flip_flop, load_statements}
use Rattle.cycle_sim.proofs.Apart.{all-drawn, all-below, apart-drawn, range-has, range-below}
use Rattle.cycle_sim.proofs.LoadNames.{load_name-same}

-- the name is that of a signal with an index below the bound
abbrev pub IsBelow : ℕ → List ℕ → Type 0
IsBelow bound name = (i : ℕ) × (i < bound) × (name ≡ load_name i)

-- a flip-flop, or a gate whose pins have lesser indexes
abbrev pub HasRole : ℕ → Kind → ℕ → ℕ → Type 0
HasRole signals kind index bound = ((is_flip_flop_kind kind ≡ true) × (input_count signals ≤ index) × (index < first_gate signals)) ⊎ ((is_flip_flop_kind kind ≡ false) × (first_gate signals ≤ index) × (bound ≤ index))

-- a gate or flip-flop of a signal, with one pin or two below a bound
pub record IsDriver (signals : ℕ) (target : List ℕ) (kind : Kind) (pins : List (List ℕ)) : Type 0 where
  pub index : ℕ
  pub bound : ℕ
  pub named : target ≡ load_name index
  pub within : index < signals
  pub low : bound ≤ signals
  pub drawn : All (IsBelow bound) pins
  pub count : IsPinCount kind (length pins)
  pub few : length pins ≤ 2
  pub role : HasRole signals kind index bound

abbrev pub IsFit : ℕ → Declaration → Type 0
IsFit signals (InputNamed name) = IsBelow (input_count signals) name
IsFit signals (OutputNamed name) = IsBelow signals name
IsFit signals (DriverNamed target kind pins) = IsDriver signals target kind pins

-- ---- what is drawn

gate-drawn : (r : ℕ) → r < 8 → is_flip_flop_kind (get_or gate_kinds r And) ≡ false
gate-drawn r within =
    elim (cases_Bool (is_flip_flop_kind (get_or gate_kinds r And))) [
      | inl flip_flop ↦ absurd (true≢false (list_all_at (λ k. not (is_flip_flop_kind k)) gate_kinds r And within (ap not flip_flop)))
      | inr gate ↦ gate
    ]

count-drawn : (kind : Kind) → IsPinCount kind (drawn_pin_count kind)
count-drawn Not = refl
count-drawn Buf = refl
count-drawn Dff = refl
count-drawn _ = (omega arith, omega arith)

few-drawn : (kind : Kind) → drawn_pin_count kind ≤ 2
few-drawn Not = omega arith
few-drawn Buf = omega arith
few-drawn Dff = omega arith
few-drawn _ = omega arith

module _ (number first : ℕ) (kind : Kind) (bound : ℕ) where
  pins-length : length (pins_drawn number first (drawn_pin_count kind) bound) ≡ drawn_pin_count kind
  pins-length = length-map-range_with_len (λ n. load_name (load_word number n % bound)) first (drawn_pin_count kind)

  pins-below : 0 < bound → All (IsBelow bound) (pins_drawn number first (drawn_pin_count kind) bound)
  pins-below some = all-drawn (λ n. load_name (load_word number n % bound)) (IsBelow bound) first (drawn_pin_count kind) (λ i h. below (load_word number (first + i)))
    where
      below : (w : ℕ) → IsBelow bound (load_name (w % bound))
      below w = (w % bound, omega (arith, some), refl)

  driver-fits : (signals index : ℕ) → 0 < bound → index < signals → bound ≤ signals → HasRole signals kind index bound → IsDriver signals (load_name index) kind (pins_drawn number first (drawn_pin_count kind) bound)
  driver-fits signals index some within low role = record {
    index = index;
    bound = bound;
    named = refl;
    within = within;
    low = low;
    drawn = pins-below some;
    count = subst (IsPinCount kind) (sym pins-length) (count-drawn kind);
    few = omega (arith, pins-length, few-drawn kind);
    role = role;
  }

module _ (number signals : ℕ) (size : IsLoadSize signals) where
  gate-fits : (i : ℕ) → i < gate_count signals → IsFit signals (load_gate number signals i)
  gate-fits i h =
      driver-fits number (gate_start number i + 1) (kind_drawn (load_word number (gate_start number i))) (first_gate signals + i) signals (first_gate signals + i)
      (omega arith) (omega arith) (omega arith) (inr (gate-drawn (load_word number (gate_start number i) % 8) (omega arith), omega arith, omega arith))

  flip_flop-fits : (i : ℕ) → i < flip_flop_count signals → IsFit signals (load_flip_flop number signals i)
  flip_flop-fits i h =
      driver-fits number (gate_start number (gate_count signals) + i) Dff signals signals (input_count signals + i)
      (omega arith) (omega arith) (omega arith) (inl (refl, omega arith, omega arith))

  pub all-fit : All (IsFit signals) (load_statements number signals)
  all-fit =
      All-append (IsFit signals) (inputs ++ gates ++ flip_flops) (OutputNamed (load_name (signals - 1)) ∷ [])
      (All-append (IsFit signals) (inputs ++ gates) flip_flops
      (All-append (IsFit signals) inputs gates (all-below (λ i. InputNamed (load_name i)) (IsFit signals) (input_count signals) (λ i h. (i, h, refl))) (all-below (load_gate number signals) (IsFit signals) (gate_count signals) gate-fits))
      (all-below (load_flip_flop number signals) (IsFit signals) (flip_flop_count signals) flip_flop-fits))
      (All-one (IsFit signals) (OutputNamed (load_name (signals - 1))) (signals - 1, omega arith, refl))
    where
      inputs : List Declaration
      inputs = map (λ i. InputNamed (load_name i)) (range_with_len 0 (input_count signals))

      gates : List Declaration
      gates = map (load_gate number signals) (range_with_len 0 (gate_count signals))

      flip_flops : List Declaration
      flip_flops = map (load_flip_flop number signals) (range_with_len 0 (flip_flop_count signals))

-- ---- what is driven

abbrev pub input_names : ℕ → List (List ℕ)
input_names signals = map (λ i. load_name i) (range_with_len 0 (input_count signals))

abbrev pub gate_names : ℕ → List (List ℕ)
gate_names signals = map (λ i. load_name (first_gate signals + i)) (range_with_len 0 (gate_count signals))

abbrev pub flip_flop_names : ℕ → List (List ℕ)
flip_flop_names signals = map (λ i. load_name (input_count signals + i)) (range_with_len 0 (flip_flop_count signals))

abbrev pub all_names : ℕ → List (List ℕ)
all_names signals = input_names signals ++ gate_names signals ++ flip_flop_names signals

flat-names : (f : ℕ → Declaration) (name : ℕ → List ℕ) → ((i : ℕ) → driven_name (f i) ≡ name i ∷ []) → (is : List ℕ) → flat_map driven_name (map f is) ≡ map name is
flat-names f name one [] = refl
flat-names f name one (i ∷ is) = ap (λ ns. ns ++ flat_map driven_name (map f is)) (one i) ∙ ap (λ ns. name i ∷ ns) (flat-names f name one is)

pub driven-are : (number signals : ℕ) → flat_map driven_name (load_statements number signals) ≡ all_names signals
driven-are number signals =
    let inputs : List Declaration = map (λ i. InputNamed (load_name i)) (range_with_len 0 (input_count signals)) in
    let gates : List Declaration = map (load_gate number signals) (range_with_len 0 (gate_count signals)) in
    let flip_flops : List Declaration = map (load_flip_flop number signals) (range_with_len 0 (flip_flop_count signals)) in
    let last : List Declaration = OutputNamed (load_name (signals - 1)) ∷ [] in
    let first_part : flat_map driven_name inputs ≡ input_names signals = flat-names (λ i. InputNamed (load_name i)) (λ i. load_name i) (λ i. refl) (range_with_len 0 (input_count signals)) in
    let second_part : flat_map driven_name gates ≡ gate_names signals = flat-names (load_gate number signals) (λ i. load_name (first_gate signals + i)) (λ i. refl) (range_with_len 0 (gate_count signals)) in
    let third_part : flat_map driven_name flip_flops ≡ flip_flop_names signals = flat-names (load_flip_flop number signals) (λ i. load_name (input_count signals + i)) (λ i. refl) (range_with_len 0 (flip_flop_count signals)) in
    flat_map-append driven_name (inputs ++ gates ++ flip_flops) last ∙ append-nil (flat_map driven_name (inputs ++ gates ++ flip_flops))
    ∙ flat_map-append driven_name (inputs ++ gates) flip_flops ∙ ap (λ ns. ns ++ flat_map driven_name flip_flops) (flat_map-append driven_name inputs gates)
    ∙ (λ i. first_part i ++ second_part i ++ third_part i)

module _ (signals : ℕ) (size : IsLoadSize signals) where
  input-index : (name : List ℕ) → Contains (input_names signals) name → (i : ℕ) × (i < input_count signals) × (name ≡ load_name i)
  input-index name h =
      let found : (i : ℕ) × Contains (range_with_len 0 (input_count signals)) i × (load_name i ≡ name) = map-member (λ i. load_name i) (range_with_len 0 (input_count signals)) name h in
      (found.0, range-below (input_count signals) found.0 found.1, sym found.2)

  gate-index : (name : List ℕ) → Contains (gate_names signals) name → (i : ℕ) × (first_gate signals ≤ i) × (i < signals) × (name ≡ load_name i)
  gate-index name h =
      let found : (i : ℕ) × Contains (range_with_len 0 (gate_count signals)) i × (load_name (first_gate signals + i) ≡ name) = map-member (λ i. load_name (first_gate signals + i)) (range_with_len 0 (gate_count signals)) name h in
      let below : found.0 < gate_count signals = range-below (gate_count signals) found.0 found.1 in
      (first_gate signals + found.0, omega arith, omega arith, sym found.2)

  flip_flop-index : (name : List ℕ) → Contains (flip_flop_names signals) name → (i : ℕ) × (input_count signals ≤ i) × (i < first_gate signals) × (name ≡ load_name i)
  flip_flop-index name h =
      let found : (i : ℕ) × Contains (range_with_len 0 (flip_flop_count signals)) i × (load_name (input_count signals + i) ≡ name) = map-member (λ i. load_name (input_count signals + i)) (range_with_len 0 (flip_flop_count signals)) name h in
      let below : found.0 < flip_flop_count signals = range-below (flip_flop_count signals) found.0 found.1 in
      (input_count signals + found.0, omega arith, omega arith, sym found.2)

  differ : (i j : ℕ) (a b : List ℕ) → i < signals → j < signals → a ≡ load_name i → b ≡ load_name j → (i ≡ j → ⊥) → a ≢ b
  differ i j a b low high first second other e = other (load_name-same i j (omega arith) (omega arith) (sym first ∙ e ∙ second))

  pub driven-apart : AllPairs (λ a b. a ≢ b) (all_names signals)
  driven-apart =
      AllPairs-join (λ a b. a ≢ b) (input_names signals ++ gate_names signals) (flip_flop_names signals)
      (AllPairs-join (λ a b. a ≢ b) (input_names signals) (gate_names signals)
      (apart-drawn (λ i. load_name i) (input_count signals) (λ i j low high e. load_name-same i j (omega arith) (omega arith) e))
      (apart-drawn (λ i. load_name (first_gate signals + i)) (gate_count signals) (λ i j low high e. let same : first_gate signals + i ≡ first_gate signals + j = load_name-same (first_gate signals + i) (first_gate signals + j) (omega arith) (omega arith) e in omega arith))
      (λ a b h k.
      let p = input-index a h in
      let g = gate-index b k in
      differ p.0 g.0 a b (omega (arith, p.1)) g.2 p.2 g.3 (λ same. omega (arith, p.1, g.1, same))))
      (apart-drawn (λ i. load_name (input_count signals + i)) (flip_flop_count signals) (λ i j low high e. let same : input_count signals + i ≡ input_count signals + j = load_name-same (input_count signals + i) (input_count signals + j) (omega arith) (omega arith) e in omega arith))
      (λ a b h k.
      let q = flip_flop-index b k in
      elim (Contains-append_cases (input_names signals) (gate_names signals) a h) [
        | inl input ↦ let p = input-index a input in differ p.0 q.0 a b (omega (arith, p.1)) (omega (arith, q.2)) p.2 q.3 (λ same. omega (arith, p.1, q.1, same))
        | inr gate ↦ let g = gate-index a gate in differ g.0 q.0 a b g.2 (omega (arith, q.2)) g.3 q.3 (λ same. omega (arith, g.1, q.2, same))
      ])

  pub driven-has : (i : ℕ) → i < signals → Contains (all_names signals) (load_name i)
  driven-has i h =
      elim (cases_lt i (input_count signals)) [
        | inl input ↦
            Contains-append_left (input_names signals ++ gate_names signals) (flip_flop_names signals) (load_name i)
            (Contains-append_left (input_names signals) (gate_names signals) (load_name i) (Contains-map (λ k. load_name k) (range_with_len 0 (input_count signals)) i (range-has (input_count signals) i input)))
        | inr behind ↦ elim (cases_lt i (first_gate signals)) [
          | inl flip_flop ↦
              let back : input_count signals + (i - input_count signals) ≡ i = omega arith in
              Contains-append_right (input_names signals ++ gate_names signals) (flip_flop_names signals) (load_name i)
              (subst (λ k. Contains (flip_flop_names signals) (load_name k)) back (Contains-map (λ k. load_name (input_count signals + k)) (range_with_len 0 (flip_flop_count signals)) (i - input_count signals) (range-has (flip_flop_count signals) (i - input_count signals) (omega arith))))
          | inr gate ↦
              let back : first_gate signals + (i - first_gate signals) ≡ i = omega arith in
              Contains-append_left (input_names signals ++ gate_names signals) (flip_flop_names signals) (load_name i)
              (Contains-append_right (input_names signals) (gate_names signals) (load_name i)
              (subst (λ k. Contains (gate_names signals) (load_name k)) back (Contains-map (λ k. load_name (first_gate signals + k)) (range_with_len 0 (gate_count signals)) (i - first_gate signals) (range-has (gate_count signals) (i - first_gate signals) (omega arith)))))
        ]
      ]

  pub all_names-length : length (all_names signals) ≡ signals
  all_names-length =
      omega (
        arith,
        length-append (input_names signals ++ gate_names signals) (flip_flop_names signals),
        length-append (input_names signals) (gate_names signals),
        length-map-range_with_len (λ i. load_name i) 0 (input_count signals),
        length-map-range_with_len (λ i. load_name (first_gate signals + i)) 0 (gate_count signals),
        length-map-range_with_len (λ i. load_name (input_count signals + i)) 0 (flip_flop_count signals),
      )

pub statements-length : (number signals : ℕ) → IsLoadSize signals → length (load_statements number signals) ≡ signals + 1
statements-length number signals size =
    let inputs : List Declaration = map (λ i. InputNamed (load_name i)) (range_with_len 0 (input_count signals)) in
    let gates : List Declaration = map (load_gate number signals) (range_with_len 0 (gate_count signals)) in
    let flip_flops : List Declaration = map (load_flip_flop number signals) (range_with_len 0 (flip_flop_count signals)) in
    omega (
      arith,
      length-append (inputs ++ gates ++ flip_flops) (OutputNamed (load_name (signals - 1)) ∷ []),
      length-append (inputs ++ gates) flip_flops,
      length-append inputs gates,
      length-map-range_with_len (λ i. InputNamed (load_name i)) 0 (input_count signals),
      length-map-range_with_len (load_gate number signals) 0 (gate_count signals),
      length-map-range_with_len (load_flip_flop number signals) 0 (flip_flop_count signals),
    )
