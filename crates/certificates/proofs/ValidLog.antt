-- The printed text of a log is valid.
use Rattle.std.proofs.Common.{◌≡◌, ℕ, zero, suc, ◌+◌, ◌<◌, ◌^◌, ◌&&◌, eqb, Bool, true, false, List, [], ◌∷◌, ◌++◌, length, map, get_or, Option, Some, None, refl, sym, ap, subst, ◌∙◌, inl, inr, arith}
use Rattle.std.specs.Prelude.{IsSome, IsTrue}
use Rattle.std.specs.List.{All, AllZip, Contains, slice_get}
use Rattle.std.specs.Fmt.{decimal}
use Rattle.std.proofs.lemmas.Bool.{and_parts, eqb-true, false≢true}
use Rattle.std.proofs.lemmas.List.Elements.{All-append, All-cons, All-contains, All-get_or, All-head, All-map, All-nil, All-tail}
use Rattle.std.proofs.lemmas.Option.{slice_get-get_or, slice_get_within}
use Rattle.sr_model.specs.declared.cells.Cell.{Cell}
use Rattle.sr_model.specs.declared.cells.Lit.{Lit}
use Rattle.sr_model.specs.declared.cells.Place.{Place}
use Rattle.sr_model.specs.declared.cells.Sig.{Sig}
use Rattle.sr_model.specs.Closure.{ForcesAt, LitSet, level, lit, passing}
use Rattle.sr_model.specs.Dump.{Row, dump_has, is_bit}
use Rattle.sr_model.specs.Netlist.{Driver, Input, Instance, Unrolled, cell_at, cells_of, delay, instance_at}
use Rattle.sr_model.proofs.lemmas.Instances.{Stands, instance_of, stands}
use Rattle.sr_model.proofs.lemmas.Members.{All-one, Contains-cases, list_any-found, map-member}
use Rattle.netlist.specs.Circuit.{Circuit, IsCircuit, unrolled_over}
use Rattle.netlist.specs.Wiring.{driver_at, pins_of}
use Rattle.sr_text.specs.Name.{is_name}
use Rattle.sr_text.proofs.lemmas.FirstFaults.{Line}
use Rattle.sr_text.proofs.lemmas.PrintedLines.{ArePrinted, IsPrinted, from_number, numbered_printed}
use Rattle.dump_reader.specs.Recording.{IsRecording, Recording}
use Rattle.unroll.proofs.lemmas.Tasks.{driven-within}
use Rattle.plain_close.specs.declared.log.Step.{Step}
use Rattle.plain_close.specs.Log.{IsLog, IsLogFrom, clashes, ends, goes_on}
use Rattle.certificates.specs.declared.claim.Fact.{Fact}
use Rattle.certificates.specs.declared.claim.Claim.TheVariants.{Forced}
use Rattle.certificates.specs.Forms.{FactLine, EndLine, ContradictionLine, by_word, contradiction_word, digit, end_word, format, version}
use Rattle.certificates.specs.Grammar.{States}
use Rattle.certificates.specs.Logs.{IsClashIn, IsStepIn, LogsAreIn, PrintedIsValid, fact_of, facts_of}
use Rattle.certificates.specs.Printed.{cert_lines, cert_text, fact_line, head_line, last_line}
use Rattle.certificates.specs.Tokens.{tokens_of}
use Rattle.certificates.specs.Validity.{IsValid, last_claim}
use Rattle.certificates.proofs.LogFacts.{all-steps, from-base, log-holds}
use Rattle.certificates.proofs.Words.{IsWord, decimal_word, digit_word, joined, joined_printed, joined_tokens, name_word, six, three, plain_word}

-- ---- the cells of what is forced

-- the cell and the place are there
pub record IsInside (c : Circuit) (cycles : ℕ) (p : Place) (l : Lit) : Type 0 where
  pub signal : l.cell.sig.0 < length c.drivers
  pub early : l.cell.cycle < cycles
  pub target : p.target.0 < length c.drivers
  pub in_time : p.cycle < cycles
  pub stands : IsSome (instance_at (unrolled_over c cycles) p)

some-there : {X : Type 0} (o : Option X) (x : X) → o ≡ Some x → IsSome o
some-there o x e = subst IsSome (sym e) refl

forced-inside : (c : Circuit) (cycles : ℕ) (known : LitSet) (p : Place) (l : Lit) → IsCircuit c → ForcesAt (unrolled_over c cycles) known p l → IsInside c cycles p l
forced-inside c cycles known p l circuit f =
    let s : Stands cycles (driver_at c.drivers p.target.0) p f.instance = stands (unrolled_over c cycles) p f.instance f.stands in
    let target : p.target.0 < length c.drivers = driven-within c.drivers p.target.0 s.kind s.pins s.driver in
    let has : Contains (cells_of (instance_of s.kind s.pins p)) l.cell = subst (λ (i : Instance). Contains (cells_of i) l.cell) s.is f.forces.on_cells in
    let later : Cell = cell_at (p.cycle + delay s.kind) p.target in
    let cell : (l.cell.sig.0 < length c.drivers) × (l.cell.cycle < cycles) =
    elim (Contains-cases later (map (cell_at p.cycle) s.pins) l.cell has) [
      | inl is ↦ (subst (λ (x : Cell). x.sig.0 < length c.drivers) is target, subst (λ (x : Cell). x.cycle < cycles) is s.in_time)
      | inr among ↦
          let found = map-member (cell_at p.cycle) s.pins l.cell among in
          let all : All (λ pin. pin.0 < length c.drivers) (pins_of (driver_at c.drivers p.target.0)) =
          All-get_or (λ driver. All (λ pin. pin.0 < length c.drivers) (pins_of driver)) c.drivers p.target.0 Input target circuit.wired in
          let pin : found.0.0 < length c.drivers =
          All-contains (λ (x : Sig). x.0 < length c.drivers) s.pins found.0 (subst (λ (x : Driver). All (λ (y : Sig). y.0 < length c.drivers) (pins_of x)) s.driver all) found.1 in
          (subst (λ (x : Cell). x.sig.0 < length c.drivers) found.2 pin, subst (λ (x : Cell). x.cycle < cycles) found.2 (omega (arith, s.in_time)))
    ] in
    record { signal = cell.0; early = cell.1; target = target; in_time = omega (arith, s.in_time); stands = some-there (instance_at (unrolled_over c cycles) p) f.instance f.stands }

-- a literal of the dump is of a signal and a cycle that are there
recorded-inside : (signals : ℕ) (d : Recording) (l : Lit) → IsRecording d → All (λ row. row.sig.0 < signals) d.rows → IsTrue (dump_has d.rows l) → (l.cell.sig.0 < signals) × (l.cell.cycle < d.cycles)
recorded-inside signals d l is within h =
    let found = list_any-found (λ (row : Row). eqb row.sig.0 l.cell.sig.0 && is_bit (slice_get row.bits l.cell.cycle) l.bit) d.rows h in
    let parts = and_parts (eqb found.0.sig.0 l.cell.sig.0) (is_bit (slice_get found.0.bits l.cell.cycle) l.bit) found.2 in
    let row : found.0.sig.0 < signals = All-contains (λ (r : Row). r.sig.0 < signals) d.rows found.0 within found.1 in
    let full : length found.0.bits ≡ d.cycles = All-contains (λ (r : Row). length r.bits ≡ d.cycles) d.rows found.0 is.full found.1 in
    (subst (λ n. n < signals) (eqb-true found.0.sig.0 l.cell.sig.0 parts.0) row, subst (λ n. l.cell.cycle < n) full (bit-within found.0.bits l.cell.cycle l.bit parts.1))
  where
    bit-within : (bits : List (Option Bool)) (i : ℕ) (bit : Bool) → is_bit (slice_get bits i) bit ≡ true → i < length bits
    bit-within bits i bit h = let found = some-bit (slice_get bits i) bit h in slice_get_within bits i found.0 found.1
      where
        some-bit : (o : Option (Option Bool)) (x : Bool) → is_bit o x ≡ true → (y : Option Bool) × (o ≡ Some y)
        some-bit None x e = absurd (false≢true e)
        some-bit (Some y) x e = (y, refl)

-- a cell of a contradiction is there
abbrev ClashInside : Circuit → ℕ → Option Cell → Type 0
ClashInside c cycles None = Unit {0}
ClashInside c cycles (Some cell) = (cell.sig.0 < length c.drivers) × (cell.cycle < cycles)

module _ (c : Circuit) (d : Recording) (circuit : IsCircuit c) (is : IsRecording d) (within : All (λ row. row.sig.0 < length c.drivers) d.rows) where
  abbrev u : Unrolled
  u = unrolled_over c d.cycles

  abbrev base : LitSet
  base = passing (dump_has d.rows)

  level-inside : (i : ℕ) (l : Lit) → level u base i l → (l.cell.sig.0 < length c.drivers) × (l.cell.cycle < d.cycles)
  level-inside zero l h = recorded-inside (length c.drivers) d l is within h
  level-inside (suc i) l h =
      elim h [
        | inl before ↦ level-inside i l before
        | inr (p, f) ↦ let inside = forced-inside c d.cycles (level u base i) p l circuit f in (inside.signal, inside.early)
      ]

  clash-inside : (i : ℕ) (steps : List Step) (clash : Option Cell) → IsLogFrom u base i steps clash → ClashInside c d.cycles clash
  clash-inside _ _ _ (clashes i cell least) = level-inside i (lit cell false) least.both.0
  clash-inside _ _ _ (ends i none next) = tt
  clash-inside _ _ _ (goes_on i now later clash none next some rest) = clash-inside (suc i) later clash rest

  abbrev IsStepInside : Step → Type 0
  IsStepInside s = IsInside c d.cycles s.place s.lit

  steps-inside : (steps : List Step) (clash : Option Cell) → IsLog u base steps clash → All IsStepInside steps
  steps-inside steps clash log = all-steps u (dump_has d.rows) IsStepInside (λ i s f. forced-inside c d.cycles (level u base i) s.place s.lit circuit f) 0 steps clash log

  clash-in : (clash : Option Cell) → ClashInside c d.cycles clash → IsClashIn (length c.drivers) clash
  clash-in None h = tt
  clash-in (Some cell) h = h.0

  pub log-in : (steps : List Step) (clash : Option Cell) → IsLog u base steps clash → All (IsStepIn (length c.drivers)) steps × IsClashIn (length c.drivers) clash
  log-in steps clash log = (
    λ k s lt. let inside = steps-inside steps clash log k s lt in (inside.signal, inside.target),
    clash-in clash (clash-inside 0 steps clash log),
  )

  -- ---- the lines

  named : (sig : Sig) → sig.0 < length c.drivers → slice_get c.names sig.0 ≡ Some (get_or c.names sig.0 [])
  named sig lt = slice_get-get_or c.names sig.0 [] (omega (arith, lt, circuit.one_name_each))

  is-name : (sig : Sig) → sig.0 < length c.drivers → IsTrue (is_name (get_or c.names sig.0 []))
  is-name sig lt = (circuit.are_names sig.0 [] (omega (arith, lt, circuit.one_name_each))).0

  small : (cycle : ℕ) → cycle < d.cycles → cycle < 2 ^ 64
  small cycle lt = omega (arith, lt, is.count.1)

  -- the words of a fact behind its name
  abbrev fact-words : Fact → List (List ℕ)
  fact-words fact = decimal fact.lit.cell.cycle ∷ digit fact.lit.bit ∷ by_word ∷ get_or c.names fact.place.target.0 [] ∷ decimal fact.place.cycle ∷ []

  fact-joined : (fact : Fact) → fact_line c.names fact ≡ joined (get_or c.names fact.lit.cell.sig.0 []) (fact-words fact)
  fact-joined fact =
      six (get_or c.names fact.lit.cell.sig.0 []) (decimal fact.lit.cell.cycle) (digit fact.lit.bit) by_word (get_or c.names fact.place.target.0 []) (decimal fact.place.cycle)

  by-is : IsWord by_word
  by-is = plain_word by_word (omega arith) refl

  words-are : (fact : Fact) → IsInside c d.cycles fact.place fact.lit → IsWord (get_or c.names fact.lit.cell.sig.0 []) × All IsWord (fact-words fact)
  words-are fact h = let target : List ℕ = get_or c.names fact.place.target.0 [] in (
    name_word (get_or c.names fact.lit.cell.sig.0 []) (is-name fact.lit.cell.sig h.signal),
    All-cons IsWord (decimal fact.lit.cell.cycle) (digit fact.lit.bit ∷ by_word ∷ target ∷ decimal fact.place.cycle ∷ []) (decimal_word fact.lit.cell.cycle (small fact.lit.cell.cycle h.early))
        (All-cons IsWord (digit fact.lit.bit) (by_word ∷ target ∷ decimal fact.place.cycle ∷ []) (digit_word fact.lit.bit)
        (All-cons IsWord by_word (target ∷ decimal fact.place.cycle ∷ []) by-is
        (All-cons IsWord target (decimal fact.place.cycle ∷ []) (name_word target (is-name fact.place.target h.target))
        (All-one IsWord (decimal fact.place.cycle) (decimal_word fact.place.cycle (small fact.place.cycle h.in_time)))))),
  )

  fact-printed : (fact : Fact) → IsInside c d.cycles fact.place fact.lit → IsPrinted (fact_line c.names fact)
  fact-printed fact h =
      let are = words-are fact h in
      subst IsPrinted (sym (fact-joined fact)) (joined_printed (get_or c.names fact.lit.cell.sig.0 []) (fact-words fact) are.0 are.1)

  fact-stated : (fact : Fact) → IsInside c d.cycles fact.place fact.lit → States c d.cycles (fact_line c.names fact) (Forced fact)
  fact-stated fact h =
      let are = words-are fact h in
      record {
        form = FactLine (get_or c.names fact.lit.cell.sig.0 []) fact.lit.cell.cycle fact.lit.bit (get_or c.names fact.place.target.0 []) fact.place.cycle;
        has_form = (
          ap tokens_of (fact-joined fact) ∙ joined_tokens (get_or c.names fact.lit.cell.sig.0 []) (fact-words fact) are.0 are.1,
          is-name fact.lit.cell.sig h.signal,
          small fact.lit.cell.cycle h.early,
          is-name fact.place.target h.target,
          small fact.place.cycle h.in_time,
        );
        means = record {
          cell = record { named = named fact.lit.cell.sig h.signal; is_cycle = refl; early = h.early };
          is_bit = refl;
          place = record { named = named fact.place.target h.target; is_cycle = refl; stands = h.stands };
        };
      }

  end-is : IsWord end_word
  end-is = plain_word end_word (omega arith) refl

  contradiction-is : IsWord contradiction_word
  contradiction-is = plain_word contradiction_word (omega arith) refl

  cell-words : (cell : Cell) → (cell.sig.0 < length c.drivers) × (cell.cycle < d.cycles) → All IsWord (get_or c.names cell.sig.0 [] ∷ decimal cell.cycle ∷ [])
  cell-words cell h =
      All-cons IsWord (get_or c.names cell.sig.0 []) (decimal cell.cycle ∷ []) (name_word (get_or c.names cell.sig.0 []) (is-name cell.sig h.0))
      (All-one IsWord (decimal cell.cycle) (decimal_word cell.cycle (small cell.cycle h.1)))

  last-printed : (clash : Option Cell) → ClashInside c d.cycles clash → IsPrinted (last_line c.names clash)
  last-printed None h = joined_printed end_word [] end-is (All-nil IsWord)
  last-printed (Some cell) h =
      subst IsPrinted (sym (three contradiction_word (get_or c.names cell.sig.0 []) (decimal cell.cycle)))
      (joined_printed contradiction_word (get_or c.names cell.sig.0 [] ∷ decimal cell.cycle ∷ []) contradiction-is (cell-words cell h))

  last-stated : (clash : Option Cell) → ClashInside c d.cycles clash → States c d.cycles (last_line c.names clash) (last_claim clash)
  last-stated None h = record { form = EndLine; has_form = joined_tokens end_word [] end-is (All-nil IsWord); means = tt }
  last-stated (Some cell) h = record {
    form = ContradictionLine (get_or c.names cell.sig.0 []) cell.cycle;
    has_form = (
      ap tokens_of (three contradiction_word (get_or c.names cell.sig.0 []) (decimal cell.cycle))
          ∙ joined_tokens contradiction_word (get_or c.names cell.sig.0 [] ∷ decimal cell.cycle ∷ []) contradiction-is (cell-words cell h),
      is-name cell.sig h.0,
      small cell.cycle h.1,
    );
    means = record { named = named cell.sig h.0; is_cycle = refl; early = h.1 };
  }

  -- ---- the text

  abbrev IsFactInside : Fact → Type 0
  IsFactInside fact = IsInside c d.cycles fact.place fact.lit

  facts-printed : (facts : List Fact) → All IsFactInside facts → ArePrinted (map (fact_line c.names) facts)
  facts-printed facts all = All-map IsPrinted (fact_line c.names) facts (λ k f lt. fact-printed (get_or facts k f) (all k f lt))

  facts-stated : (n : ℕ) (facts : List Fact) → All IsFactInside facts → AllZip (λ line fact. States c d.cycles line.1 (Forced fact)) (from_number n (map (fact_line c.names) facts)) facts
  facts-stated n [] all = tt
  facts-stated n (fact ∷ facts) all = (fact-stated fact (All-head IsFactInside fact facts all), facts-stated (n + 1) facts (All-tail IsFactInside fact facts all))

  numbers-push : (n : ℕ) (lines : List (List ℕ)) (line : List ℕ) → (m : ℕ) × (from_number n (lines ++ line ∷ []) ≡ from_number n lines ++ (m, line) ∷ [])
  numbers-push n [] line = (n, refl)
  numbers-push n (first ∷ lines) line = let more = numbers-push (n + 1) lines line in (more.0, ap (λ (ls : List Line). (n, first) ∷ ls) more.1)

  head-is : IsWord format × IsWord version
  head-is = (plain_word format (omega arith) refl, plain_word version (omega arith) refl)

  pub valid-log : (steps : List Step) (clash : Option Cell) → IsLog u base steps clash → IsValid c d (cert_text c.names (facts_of steps) clash) (facts_of steps) clash
  valid-log steps clash log =
      let facts : List Fact = facts_of steps in
      let inside : All IsFactInside facts = All-map IsFactInside fact_of steps (steps-inside steps clash log) in
      let there : ClashInside c d.cycles clash = clash-inside 0 steps clash log in
      let lines : List (List ℕ) = map (fact_line c.names) facts in
      let holds = log-holds u (dump_has d.rows) 0 steps clash [] log (from-base u (dump_has d.rows)) in
      let pushed = numbers-push 2 lines (last_line c.names clash) in
      let are : ArePrinted (cert_lines c.names facts clash) =
      All-cons IsPrinted head_line (lines ++ last_line c.names clash ∷ []) (joined_printed format (version ∷ []) head-is.0 (All-one IsWord version head-is.1))
      (All-append IsPrinted lines (last_line c.names clash ∷ []) (facts-printed facts inside) (All-one IsPrinted (last_line c.names clash) (last-printed clash there))) in
      record {
        lines = from_number 2 (lines ++ last_line c.names clash ∷ []);
        head = record {
          head = (1, head_line);
          whole = numbered_printed (cert_lines c.names facts clash) are;
          is_head = joined_tokens format (version ∷ []) head-is.0 (All-one IsWord version head-is.1);
        };
        complete = record {
          before = from_number 2 lines;
          last = (pushed.0, last_line c.names clash);
          whole = pushed.1;
          facts_stated = record { each = facts-stated 2 facts inside; forced = holds.0 };
          last_stated = last-stated clash there;
          holds = holds.1;
        };
      }

pub logs_are_in : LogsAreIn
logs_are_in c d steps clash circuit is within log = log-in c d circuit is within steps clash log

pub printed_is_valid : PrintedIsValid
printed_is_valid c d steps clash circuit is within log = valid-log c d circuit is within steps clash log
