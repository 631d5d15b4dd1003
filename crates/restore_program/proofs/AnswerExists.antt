-- There is an answer wherever the inputs that are come to are held.
use Rattle.std.proofs.Common.{◌≡◌, ◌⊎◌, ℕ, Bool, List, length, Option, None, Some, inl, inr, refl}
use Rattle.std.specs.Prelude.{IsSome}
use Rattle.std.proofs.lemmas.Bool.{cases_lt}
use Rattle.sr_model.specs.declared.cells.Lit.{Lit}
use Rattle.sr_model.specs.Closure.{SameLits, passing}
use Rattle.sr_model.specs.Dump.{Known, Row, dump_has}
use Rattle.sr_model.specs.Netlist.{Valuation}
use Rattle.sr_model.proofs.lemmas.Laws.{closure_test, dump_clash_or_none}
use Rattle.sr_outside.specs.Told.{Held}
use Rattle.netlist.specs.Circuit.{Circuit, IsCircuit, circuit_of, unrolled_over}
use Rattle.netlist.specs.Checks.{without_lines}
use Rattle.netlist.specs.Wiring.{flip_flops}
use Rattle.netlist.proofs.lemmas.Laws.{netlist_or_refused}
use Rattle.bench_reader.specs.Printed.{bench_text}
use Rattle.bench_reader.proofs.lemmas.Laws as bench
use Rattle.sr_model.specs.Limits.{block_count, max_blocks}
use Rattle.dump_reader.specs.Print.{printed}
use Rattle.dump_reader.specs.Recording.{Recording}
use Rattle.dump_reader.proofs.lemmas.Laws as dumps
use Rattle.known_planes.specs.Counts.{known_count}
use Rattle.ratio.specs.Ratio.{Counts}
use Rattle.cycle_sim.specs.Drawing.{drawn_bit}
use Rattle.cycle_sim.specs.Load.{IsLoadSize}
use Rattle.cycle_sim.specs.Simulation.{traced_rows}
use Rattle.cycle_sim.proofs.lemmas.Laws.{simulation_exists}
use Rattle.plain_close.proofs.lemmas.Laws.{log_exists}
use Rattle.certificates.specs.Logs.{facts_of}
use Rattle.certificates.specs.Printed.{cert_text}
use Rattle.certificates.proofs.lemmas.Laws as certs
use Rattle.greedy_select.proofs.lemmas.Laws.{picks_exist}
use Rattle.report.specs.declared.refusal.Part.TheVariants as parts
use Rattle.report.specs.declared.refusal.WordRefusal.TheVariants as word_refusals
use Rattle.report.specs.Check.{checked_text}
use Rattle.report.specs.Clash.{clash_line}
use Rattle.report.specs.InputRefusals.{bench_line, cert_line, dump_line, net_line, too_long_line}
use Rattle.report.specs.Load.{load_line}
use Rattle.report.specs.Picks.{pick_lines}
use Rattle.report.specs.Refusals.{many_cells_line, trace_twice_line, unknown_trace_line, width_over_line, word_line}
use Rattle.report.specs.Table.{table_text}
use Rattle.restore_program.specs.declared.status.Status.{Status}
use Rattle.restore_program.specs.declared.status.Status.TheVariants as statuses
use Rattle.restore_program.specs.Texts.{most_bytes, IsDumpText, IsNetlistText, RefusedDump, RefusedNetlist, netlist_too_long, bad_line, no_netlist, certificate_too_long, bad_certificate, traced_count, dump_too_long, bad_dump}
use Rattle.restore_program.specs.Answer.{IsDumpOf, OnCertificate, OnDump, OnRecording, clash, table, IsNetlistOf, OnNetlist, RequestAnswer, usage, bad_number, asked}
use Rattle.restore_program.specs.AnswerLaws.{AnswerExists, IsServed}
use Rattle.restore_program.specs.Certifying.{OnCertify, OnCheck, certified, ends_with, is_accepted, not_accepted}
use Rattle.restore_program.specs.Loading.{IsLoadText, load_circuit, load_cycles, load_traced}
use Rattle.restore_program.specs.Requests.{Request, Asks, certification, checking, restoration, selection, simulation, printing, loading}
use Rattle.restore_program.specs.Selecting.{OnSelect, ranked, too_many_cells, width_over}
use Rattle.restore_program.specs.Tracing.{IsDrawnRun, OnTrace, names_in, unknown_name, name_twice, many_cells, refused_cells, refused_names, traced}
use Rattle.restore_program.proofs.AskedLoad.{load_size}
use Rattle.restore_program.proofs.Files.{behind_dump, behind_netlist, first_file}
use Rattle.restore_program.proofs.NamesDecided.{names_decided}
use Rattle.restore_program.proofs.OneAnswer.{is_circuit}
use Rattle.restore_program.proofs.OneLoad.{load_is_circuit}
use Rattle.restore_program.proofs.WordsDecided.{words_decided}

-- a text and a status of which this holds
abbrev pub Some_text : (List ℕ → Status → Type 0) → Type 0
Some_text P = (text : List ℕ) × (status : Status) × P text status

held_bytes : (there : Option (List ℕ)) → IsSome there → (bytes : List ℕ) × (there ≡ Some bytes)
held_bytes None some = absurd cc
held_bytes (Some bytes) some = (bytes, refl)

-- ---- texts

netlist_decided : (bytes : List ℕ) → Some_text (RefusedNetlist bytes) ⊎ ((c : Circuit) × IsNetlistText bytes c)
netlist_decided bytes = elim (cases_lt (most_bytes parts.Netlist) (length bytes)) [
  | inl long ↦ inl (too_long_line parts.Netlist, statuses.Netlist, netlist_too_long long)
  | inr short ↦ elim (bench.read_or_refused bytes) [
    | inr (r, is, some) ↦ inl (bench_line r, statuses.Netlist, bad_line r short some is)
    | inl (stated, spells) ↦ elim (netlist_or_refused stated) [
      | inr (r, is, some) ↦ inl (net_line r, statuses.Netlist, no_netlist stated r short some spells is)
      | inl is ↦ inr (circuit_of (without_lines stated), record { few = short; stated = stated; spells = spells; netlist = is; circuit = refl })
    ]
  ]
]

recording_decided : (c : Circuit) (d : Recording) (all : Bool) → Some_text (OnRecording c d all)
recording_decided c d all = elim (dump_clash_or_none (unrolled_over c d.cycles) d.rows) [
  | inr (cell, level, is) ↦ (clash_line c cell, statuses.Contradiction, clash cell (level, is))
  | inl consistent ↦
      let known = closure_test (unrolled_over c d.cycles) (dump_has d.rows) in
      (table_text c d.cycles known.0 (traced_count c d) all, statuses.Done, table known.0 known.1 (λ cell both. consistent cell (known.1.0 _ both.0, known.1.0 _ both.1)))
]

dump_decided : (c : Circuit) (bytes : List ℕ) → Some_text (RefusedDump c bytes) ⊎ ((d : Recording) × IsDumpText c bytes d)
dump_decided c bytes = elim (cases_lt (most_bytes parts.Dump) (length bytes)) [
  | inl long ↦ inl (too_long_line parts.Dump, statuses.Dump, dump_too_long long)
  | inr short ↦ elim (dumps.read_or_refused c bytes) [
    | inr (r, is, some) ↦ inl (dump_line r, statuses.Dump, bad_dump r short some is)
    | inl (d, spells) ↦ inr (d, (short, spells))
  ]
]

certify_decided : (c : Circuit) (d : Recording) → Some_text (OnCertify c d)
certify_decided c d = let (steps, ends, log) = log_exists (unrolled_over c d.cycles) d.rows in (cert_text c.names (facts_of steps) ends, ends_with ends, certified steps ends log)

check_decided : (c : Circuit) → IsCircuit c → (d : Recording) (bytes : List ℕ) → Some_text (OnCheck c d bytes)
check_decided c is d bytes = elim (cases_lt (most_bytes parts.Certificate) (length bytes)) [
  | inl long ↦ (too_long_line parts.Certificate, statuses.Certificate, not_accepted _ _ (certificate_too_long long))
  | inr short ↦ elim (certs.valid_or_refused c is d bytes) [
    | inr (r, bad, some) ↦ (cert_line r, statuses.Certificate, not_accepted _ _ (bad_certificate r short some bad))
    | inl (facts, ends, valid) ↦ (checked_text c (length facts) ends, ends_with ends, is_accepted facts ends (short, valid))
  ]
]

-- ---- runs

trace_decided : (c : Circuit) → IsCircuit c → (cycles seed : ℕ) (list : List ℕ) → Some_text (OnTrace c cycles seed list)
trace_decided c is cycles seed list = elim (names_decided c is (names_in list)) [
  | inr (inl (name, unknown)) ↦ (unknown_trace_line name, statuses.Words, refused_names _ _ (unknown_name name unknown))
  | inr (inr (name, twice)) ↦ (trace_twice_line name, statuses.Words, refused_names _ _ (name_twice name twice))
  | inl (sigs, named) ↦ elim (cases_lt max_blocks (block_count (length c.drivers) cycles)) [
    | inl many ↦ (many_cells_line (block_count (length c.drivers) cycles), statuses.Dump, refused_cells sigs _ _ named (many_cells many))
    | inr few ↦
        let run = simulation_exists c is cycles (drawn_bit seed (length c.inputs)) in
        let text : List ℕ = printed c.names (record { cycles = cycles; rows = traced_rows run.0 cycles sigs }) in
        (text, statuses.Done, traced sigs text named few (run.0, run.1, refl))
  ]
]

selection_decided : (c : Circuit) → IsCircuit c → (width cycles seed : ℕ) → Some_text (OnSelect c width cycles seed)
selection_decided c is width cycles seed = elim (cases_lt (length (flip_flops c.drivers)) width) [
  | inl less ↦ (width_over_line (length (flip_flops c.drivers)), statuses.Words, width_over less)
  | inr has ↦ elim (cases_lt max_blocks (block_count (length c.drivers) cycles)) [
    | inl many ↦ (many_cells_line (block_count (length c.drivers) cycles), statuses.Dump, too_many_cells _ _ has (many_cells many))
    | inr few ↦
        let run = simulation_exists c is cycles (drawn_bit seed (length c.inputs)) in
        let picks = picks_exist c cycles run.0 width has in
        (pick_lines c.names picks.0, statuses.Done, ranked _ has few (record { run = run.0; is_run = run.1; picks = picks.0; width_is = picks.1; greedy = picks.2; text_is = refl }))
  ]
]

load_text : (number signals : ℕ) → IsLoadSize signals → (text : List ℕ) × IsLoadText number signals text
load_text number signals size = (
  load_line number signals (length (flip_flops c.drivers)) counts,
  record {
    size = size;
    rows = rows;
    trace = (run.0, run.1, refl);
    counts = counts;
    counted = record { known = known.0; is_known = known.1; known_is = refl; traced_is = refl };
    text_is = refl;
  },
) where
  c : Circuit
  c = load_circuit number signals

  run : (v : Valuation) × IsDrawnRun c number load_cycles v
  run = simulation_exists c (load_is_circuit number signals size) load_cycles (drawn_bit number (length c.inputs))

  rows : List Row
  rows = traced_rows run.0 load_cycles (load_traced c)

  known : (known : Lit → Bool) × SameLits (passing known) (Known (unrolled_over c load_cycles) rows)
  known = closure_test (unrolled_over c load_cycles) (dump_has rows)

  counts : Counts
  counts = record { known = known_count c load_cycles known.0; traced = known_count c load_cycles (dump_has rows) }

-- ---- what the words ask for

on_netlist : (held : Held) (netlist : List ℕ) (P : Circuit → List ℕ → Status → Type 0) → IsSome (held netlist) → ((c : Circuit) → IsNetlistOf held netlist c → IsCircuit c → Some_text (P c)) → Some_text (OnNetlist held netlist P)
on_netlist held netlist P some each =
    let (bytes, there) = held_bytes (held netlist) some in
    elim (netlist_decided bytes) [
      | inl (text, status, refused) ↦ (text, status, inl (bytes, there, refused))
      | inr (c, is) ↦
          let (text, status, answer) = each c (bytes, there, is) (is_circuit bytes c is) in
          (text, status, inr (c, (bytes, there, is), answer))
    ]

on_dump : (held : Held) (dump : List ℕ) (c : Circuit) (P : Recording → List ℕ → Status → Type 0) → IsSome (held dump) → ((d : Recording) → IsDumpOf held dump c d → Some_text (P d)) → Some_text (OnDump held dump c P)
on_dump held dump c P some each =
    let (bytes, there) = held_bytes (held dump) some in
    elim (dump_decided c bytes) [
      | inl (text, status, refused) ↦ (text, status, inl (bytes, there, refused))
      | inr (d, is) ↦
          let (text, status, answer) = each d (bytes, there, is) in
          (text, status, inr (d, (bytes, there, is), answer))
    ]

on_certificate : (held : Held) (certificate : List ℕ) (c : Circuit) → IsCircuit c → (d : Recording) → IsSome (held certificate) → Some_text (OnCertificate held certificate c d)
on_certificate held certificate c is d some =
    let (bytes, there) = held_bytes (held certificate) some in
    let (text, status, on) = check_decided c is d bytes in
    (text, status, (bytes, there, on))

on_request : (held : Held) (words : List (List ℕ)) (request : Request) → Asks words request → IsServed held request → Some_text (RequestAnswer held request)
on_request held words (restoration netlist dump all) asks there = on_netlist held netlist _ (there (parts.Netlist, netlist) (first_file (Some held) _ _)) (λ c is circuit.
    on_dump held dump c _ (there (parts.Dump, dump) (behind_netlist (Some held) netlist c _ _ is)) (λ d read. recording_decided c d all))
on_request held words (selection netlist width cycles seed) asks there = on_netlist held netlist _ (there (parts.Netlist, netlist) (first_file (Some held) _ _)) (λ c is circuit. selection_decided c circuit width cycles seed)
on_request held words (simulation netlist cycles seed list) asks there = on_netlist held netlist _ (there (parts.Netlist, netlist) (first_file (Some held) _ _)) (λ c is circuit. trace_decided c circuit cycles seed list)
on_request held words (printing netlist) asks there = on_netlist held netlist _ (there (parts.Netlist, netlist) (first_file (Some held) _ _)) (λ c is circuit. (bench_text c, statuses.Done, (refl, refl)))
on_request held words (loading number signals) asks there =
    let (text, is) = load_text number signals (load_size words number signals asks) in
    (text, statuses.Done, (is, refl))
on_request held words (certification netlist dump) asks there = on_netlist held netlist _ (there (parts.Netlist, netlist) (first_file (Some held) _ _)) (λ c is circuit.
    on_dump held dump c _ (there (parts.Dump, dump) (behind_netlist (Some held) netlist c _ _ is)) (λ d read. certify_decided c d))
on_request held words (checking netlist dump certificate) asks there = on_netlist held netlist _ (there (parts.Netlist, netlist) (first_file (Some held) _ _)) (λ c is circuit.
    on_dump held dump c _ (there (parts.Dump, dump) (behind_netlist (Some held) netlist c _ _ is)) (λ d read.
    on_certificate held certificate c circuit d (there (parts.Certificate, certificate) (behind_dump (Some held) netlist dump c d _ _ is read))))

pub answer_exists : AnswerExists
answer_exists words held served = elim (words_decided words) [
  | inl none ↦ (word_line words word_refusals.Usage, statuses.Words, usage none)
  | inr (inl (place, bad)) ↦ (word_line words (word_refusals.Number place), statuses.Words, bad_number place bad)
  | inr (inr (request, asks)) ↦
      let (text, status, answer) = on_request held words request asks (served request asks) in
      (text, status, asked request text status asks answer)
]
