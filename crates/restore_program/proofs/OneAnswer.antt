-- There is one answer at most, and accepted inputs are answered.
use Rattle.std.proofs.Common.{◌≡◌, ℕ, ◌≤◌, ◌<◌, Bool, true, false, List, ◌++◌, length, Option, None, Some, refl, sym, ap, subst, ◌∙◌, ◌⊎◌, inl, inr, lit<, arith}
use Rattle.std.specs.Prelude.{codes}
use Rattle.std.proofs.lemmas.Option.{same_Some}
use Rattle.sr_model.specs.declared.cells.Cell.{Cell}
use Rattle.sr_model.specs.declared.cells.Lit.{Lit}
use Rattle.sr_model.specs.Dump.{dump_has}
use Rattle.sr_model.specs.Order.{CellLe}
use Rattle.sr_model.specs.Closure.{HasBoth, SameLits, level, lit, passing}
use Rattle.sr_model.proofs.lemmas.Laws.{level_in_Closure}
use Rattle.sr_outside.specs.Told.{Held}
use Rattle.bench_reader.proofs.lemmas.Laws as texts
use Rattle.netlist.specs.Circuit.{Circuit, IsCircuit, circuit_of, unrolled_over}
use Rattle.std.specs.Fmt.{decimal}
use Rattle.netlist.specs.Laws.{SameRefusal}
use Rattle.netlist.proofs.lemmas.Laws.{statements_give_circuits, refusal_is_unique, netlists_are_not_refused}
use Rattle.bench_reader.proofs.lemmas.Laws.{spells_statements}
use Rattle.netlist.specs.Checks as checks
use Rattle.netlist.specs.declared.checks.NetRefusal.{NetRefusal}
use Rattle.netlist.specs.declared.checks.NetRefusal.TheVariants as net
use Rattle.dump_reader.specs.Recording.{Recording}
use Rattle.dump_reader.proofs.lemmas.Laws.{one_reading}
use Rattle.dump_reader.proofs.lemmas.Laws as dump_laws
use Rattle.plain_close.proofs.lemmas.Laws.{one_log}
use Rattle.certificates.specs.declared.claim.Fact.{Fact}
use Rattle.certificates.specs.Logs.{facts_of}
use Rattle.certificates.specs.Printed.{cert_text}
use Rattle.certificates.proofs.lemmas.Laws as certs
use Rattle.report.specs.Check.{checked_text}
use Rattle.report.specs.Clash.{clash_line}
use Rattle.report.specs.InputRefusals.{bench_line, cert_line, net_line, dump_line}
use Rattle.report.specs.Refusals.{word_line}
use Rattle.report.specs.declared.refusal.Part.{Part}
use Rattle.report.specs.declared.refusal.Part.TheVariants as parts
use Rattle.report.specs.declared.refusal.WordRefusal.TheVariants as word_refusals
use Rattle.report.specs.Table.{table_text}
use Rattle.restore_program.specs.declared.status.Status.{Status}
use Rattle.restore_program.specs.declared.status.Status.TheVariants as statuses
use Rattle.restore_program.specs.Certifying.{OnCertify, OnCheck, certified, ends_with, is_accepted, not_accepted}
use Rattle.restore_program.specs.Texts.{most_bytes, IsNetlistText, RefusedNetlist, netlist_too_long, bad_line, no_netlist, IsCertificateText, IsClashOf, IsDumpText, KnownFrom, traced_count, RefusedCertificate, RefusedDump, bad_certificate, certificate_too_long, dump_too_long, bad_dump}
use Rattle.restore_program.specs.Answer.{OnDump, OnRecording, OnRefusedDump, IsDumpOf, IsCertificateOf, OnCertificate, clash, table, IsNetlistOf, OnNetlist, OnPrint, OnRefused, RequestAnswer, Answer, usage, bad_number, asked}
use Rattle.restore_program.specs.AnswerLaws.{HasOneAnswer, AcceptedIsCompleted}
use Rattle.restore_program.specs.Requests.{Request, Asks, certification, checking, restoration, selection, simulation, printing, loading}
use Rattle.restore_program.specs.Sound.{IsAccepted, IsCompleted}
use Rattle.restore_program.specs.Selecting.{OnSelect}
use Rattle.restore_program.specs.Tracing.{OnTrace}
use Rattle.restore_program.proofs.OneLoad.{one_load_text}
use Rattle.restore_program.proofs.OneMeaning.{one_bad}
use Rattle.restore_program.proofs.OneRanking.{one_on_select, ranked_done}
use Rattle.restore_program.proofs.OneRequest.{asked_command, asked_good, one_request}
use Rattle.restore_program.proofs.OneTrace.{one_on_trace, traced_done}
use Rattle.restore_program.proofs.SameTests.{same_test}

-- no list is both too long and not
not_longer : (part : Part) (bytes : List ℕ) → length bytes ≤ most_bytes part → most_bytes part < length bytes → ⊥
not_longer part bytes short long = omega (arith, short, long)

-- an input holds one list of bytes
same_held : (held : Held) (name bytes other : List ℕ) → held name ≡ Some bytes → held name ≡ Some other → bytes ≡ other
same_held held name bytes other first second = same_Some bytes other (sym first ∙ second)

-- ---- one netlist

same_circuit : (bytes : List ℕ) (c d : Circuit) → IsNetlistText bytes c → IsNetlistText bytes d → c ≡ d
same_circuit bytes c d a b =
    let stated : a.stated ≡ b.stated = texts.one_reading bytes a.stated b.stated a.spells b.spells in
    a.circuit ∙ ap (λ s. circuit_of (checks.without_lines s)) stated ∙ sym b.circuit

same_netlist : (held : Held) (name : List ℕ) (c d : Circuit) → IsNetlistOf held name c → IsNetlistOf held name d → c ≡ d
same_netlist held name c d (bytes, there, text) (other, again, other_text) =
    same_circuit bytes c d text (subst (λ b. IsNetlistText b d) (sym (same_held held name bytes other there again)) other_text)

pub is_circuit : (bytes : List ℕ) (c : Circuit) → IsNetlistText bytes c → IsCircuit c
is_circuit bytes c a =
    subst IsCircuit (sym a.circuit) (statements_give_circuits (checks.without_lines a.stated) (spells_statements bytes a.stated a.spells) a.netlist)

-- a text of a netlist is not refused
refused_or_read : (bytes : List ℕ) (c : Circuit) (text : List ℕ) (status : Status) → RefusedNetlist bytes text status → IsNetlistText bytes c → ⊥
refused_or_read bytes c text status (netlist_too_long long) a = not_longer parts.Netlist bytes a.few long
refused_or_read bytes c text status (bad_line r short some is) a = some (texts.not_both bytes a.stated r a.spells is)
refused_or_read bytes c text status (no_netlist stated r short some spells is) a =
    let same : stated ≡ a.stated = texts.one_reading bytes stated a.stated spells a.spells in
    some (netlists_are_not_refused a.stated r a.netlist (subst (λ s. checks.IsRefusal s r) same is))

same_line : (r s : NetRefusal) → SameRefusal r s → net_line r ≡ net_line s
same_line (net.TooManySignals a) (net.TooManySignals b) e = ap (λ n. net_line (net.TooManySignals n)) e
same_line (net.TooManyPins a) (net.TooManyPins b) e = ap (λ n. net_line (net.TooManyPins n)) e
same_line (net.TwoDrivers a) (net.TwoDrivers b) e = ap (λ n. net_line (net.TwoDrivers n)) e
same_line (net.NoDriver a) (net.NoDriver b) e = ap (λ (name : List ℕ). codes "srestore: netlist: 8 no driver " ++ name ++ codes "\n") e
same_line (net.Loop a m) (net.Loop b n) e =
    ap (λ (name : List ℕ). codes "srestore: netlist: 9 loop " ++ name ++ codes " " ++ decimal m ++ codes "\n") e.0
    ∙ ap (λ k. codes "srestore: netlist: 9 loop " ++ b.items ++ codes " " ++ decimal k ++ codes "\n") e.1
same_line net.NoMemory net.NoMemory e = refl
same_line (net.TooManySignals a) (net.TooManyPins b) e = absurd e
same_line (net.TooManySignals a) (net.TwoDrivers b) e = absurd e
same_line (net.TooManySignals a) (net.NoDriver b) e = absurd e
same_line (net.TooManySignals a) (net.Loop b n) e = absurd e
same_line (net.TooManySignals a) net.NoMemory e = absurd e
same_line (net.TooManyPins a) (net.TooManySignals b) e = absurd e
same_line (net.TooManyPins a) (net.TwoDrivers b) e = absurd e
same_line (net.TooManyPins a) (net.NoDriver b) e = absurd e
same_line (net.TooManyPins a) (net.Loop b n) e = absurd e
same_line (net.TooManyPins a) net.NoMemory e = absurd e
same_line (net.TwoDrivers a) (net.TooManySignals b) e = absurd e
same_line (net.TwoDrivers a) (net.TooManyPins b) e = absurd e
same_line (net.TwoDrivers a) (net.NoDriver b) e = absurd e
same_line (net.TwoDrivers a) (net.Loop b n) e = absurd e
same_line (net.TwoDrivers a) net.NoMemory e = absurd e
same_line (net.NoDriver a) (net.TooManySignals b) e = absurd e
same_line (net.NoDriver a) (net.TooManyPins b) e = absurd e
same_line (net.NoDriver a) (net.TwoDrivers b) e = absurd e
same_line (net.NoDriver a) (net.Loop b n) e = absurd e
same_line (net.NoDriver a) net.NoMemory e = absurd e
same_line (net.Loop a m) (net.TooManySignals b) e = absurd e
same_line (net.Loop a m) (net.TooManyPins b) e = absurd e
same_line (net.Loop a m) (net.TwoDrivers b) e = absurd e
same_line (net.Loop a m) (net.NoDriver b) e = absurd e
same_line (net.Loop a m) net.NoMemory e = absurd e
same_line net.NoMemory (net.TooManySignals b) e = absurd e
same_line net.NoMemory (net.TooManyPins b) e = absurd e
same_line net.NoMemory (net.TwoDrivers b) e = absurd e
same_line net.NoMemory (net.NoDriver b) e = absurd e
same_line net.NoMemory (net.Loop b n) e = absurd e

one_refusal : (bytes text other : List ℕ) (status last : Status) → RefusedNetlist bytes text status → RefusedNetlist bytes other last → (text ≡ other) × (status ≡ last)
one_refusal bytes text other status last (netlist_too_long long) (netlist_too_long _) = (refl, refl)
one_refusal bytes text other status last (netlist_too_long long) (bad_line _ short _ _) = absurd (not_longer parts.Netlist bytes short long)
one_refusal bytes text other status last (netlist_too_long long) (no_netlist _ _ short _ _ _) = absurd (not_longer parts.Netlist bytes short long)
one_refusal bytes text other status last (bad_line _ short _ _) (netlist_too_long long) = absurd (not_longer parts.Netlist bytes short long)
one_refusal bytes text other status last (bad_line r _ some is) (bad_line s _ some_s is_s) = (ap bench_line (texts.one_refusal bytes r s is is_s some some_s), refl)
one_refusal bytes text other status last (bad_line r _ some is) (no_netlist stated _ _ _ spells _) = absurd (some (texts.not_both bytes stated r spells is))
one_refusal bytes text other status last (no_netlist _ _ short _ _ _) (netlist_too_long long) = absurd (not_longer parts.Netlist bytes short long)
one_refusal bytes text other status last (no_netlist stated _ _ _ spells _) (bad_line r _ some is) = absurd (some (texts.not_both bytes stated r spells is))
one_refusal bytes text other status last (no_netlist stated r _ some spells is) (no_netlist again s _ some_s spells_s is_s) =
    let same : stated ≡ again = texts.one_reading bytes stated again spells spells_s in
    (same_line r s (refusal_is_unique again r s (subst (λ x. checks.IsRefusal x r) same is) is_s some some_s), refl)

-- ---- one answer to a dump

one_recording : (c : Circuit) (bytes : List ℕ) (a b : Recording) → IsCircuit c → IsDumpText c bytes a → IsDumpText c bytes b → a ≡ b
one_recording c bytes a b circuit first second = one_reading c bytes a b circuit first.1 second.1

-- ---- one contradiction

same_cell : (a b : Cell) → CellLe a b → CellLe b a → a ≡ b
same_cell a b (inl less) (inl more) = absurd (omega (arith, less, more))
same_cell a b (inl less) (inr (same, _)) = absurd (omega (arith, less, same))
same_cell a b (inr (same, _)) (inl more) = absurd (omega (arith, same, more))
same_cell a b (inr (same, low)) (inr (_, high)) =
    let signals : a.sig.0 ≡ b.sig.0 = omega (arith, low, high) in
    ap (λ n. record { cycle = n; sig = a.sig }) same ∙ ap (λ n. record { cycle = b.cycle; sig = record { 0 = n } }) signals

one_clash : (c : Circuit) (d : Recording) (a b : Cell) → IsClashOf c d a → IsClashOf c d b → a ≡ b
one_clash c d a b (i, first) (j, second) =
    let same : i ≡ j = omega (arith, first.first_level j b second.least_cell.both, second.first_level i a first.least_cell.both) in
    same_cell a b (first.least_cell.least b (subst (λ n. HasBoth (level (unrolled_over c d.cycles) (passing (dump_has d.rows)) n) b) (sym same) second.least_cell.both))
    (second.least_cell.least a (subst (λ n. HasBoth (level (unrolled_over c d.cycles) (passing (dump_has d.rows)) n) a) same first.least_cell.both))

-- both literals of its cell are known
pub clash_known : (c : Circuit) (d : Recording) (cell : Cell) → IsClashOf c d cell → HasBoth (KnownFrom c d) cell
clash_known c d cell (i, first) =
    let within = level_in_Closure (unrolled_over c d.cycles) (passing (dump_has d.rows)) i in (within (lit cell false) first.least_cell.both.0, within (lit cell true) first.least_cell.both.1)

-- so there is no table
no_table : (c : Circuit) (d : Recording) (cell : Cell) (test : Lit → Bool) → IsClashOf c d cell → SameLits (passing test) (KnownFrom c d) → ((x : Cell) → HasBoth (passing test) x → ⊥) → ⊥
no_table c d cell test is passes no_clash =
    let both : HasBoth (KnownFrom c d) cell = clash_known c d cell is in no_clash cell (passes.1 (lit cell false) both.0, passes.1 (lit cell true) both.1)

-- ---- one answer to a dump

one_dump_refusal : (c : Circuit) (bytes text other : List ℕ) (status last : Status) → IsCircuit c → RefusedDump c bytes text status → RefusedDump c bytes other last → (text ≡ other) × (status ≡ last)
one_dump_refusal c bytes text other status last circuit (dump_too_long long) (dump_too_long _) = (refl, refl)
one_dump_refusal c bytes text other status last circuit (dump_too_long long) (bad_dump _ short _ _) = absurd (not_longer parts.Dump bytes short long)
one_dump_refusal c bytes text other status last circuit (bad_dump _ short _ _) (dump_too_long long) = absurd (not_longer parts.Dump bytes short long)
one_dump_refusal c bytes text other status last circuit (bad_dump r _ some is) (bad_dump s _ some_s is_s) = (ap dump_line (dump_laws.one_refusal c bytes r s circuit is is_s some some_s), refl)

-- a dump's text is not refused
dump_or_refused : (c : Circuit) (bytes : List ℕ) (d : Recording) (text : List ℕ) (status : Status) → IsCircuit c → RefusedDump c bytes text status → IsDumpText c bytes d → ⊥
dump_or_refused c bytes d text status circuit (dump_too_long long) is = not_longer parts.Dump bytes is.0 long
dump_or_refused c bytes d text status circuit (bad_dump r _ some bad) is = some (dump_laws.not_both c bytes d r circuit is.1 bad)

one_on_recording : (c : Circuit) (d : Recording) (all : Bool) (text other : List ℕ) (status last : Status) → OnRecording c d all text status → OnRecording c d all other last → (text ≡ other) × (status ≡ last)
one_on_recording c d all text other status last (clash cell is) (clash next is_too) = (ap (clash_line c) (one_clash c d cell next is is_too), refl)
one_on_recording c d all text other status last (clash cell is) (table test passes no_clash) = absurd (no_table c d cell test is passes no_clash)
one_on_recording c d all text other status last (table test passes no_clash) (clash cell is) = absurd (no_table c d cell test is passes no_clash)
one_on_recording c d all text other status last (table test passes _) (table final passes_final _) =
    (ap (λ known. table_text c d.cycles known (traced_count c d) all) (same_test (KnownFrom c d) test final passes passes_final), refl)

one_certificate : (c : Circuit) (d : Recording) (text other : List ℕ) (status last : Status) → OnCertify c d text status → OnCertify c d other last → (text ≡ other) × (status ≡ last)
one_certificate c d text other status last (certified steps ends is) (certified again next is_too) =
    let same = one_log (unrolled_over c d.cycles) (dump_has d.rows) steps again ends next is is_too in
    (ap (λ s. cert_text c.names (facts_of s) ends) same.0 ∙ ap (cert_text c.names (facts_of again)) same.1, ap ends_with same.1)

one_certificate_refusal : (c : Circuit) (d : Recording) (bytes text other : List ℕ) (status last : Status) → IsCircuit c → RefusedCertificate c d bytes text status → RefusedCertificate c d bytes other last → (text ≡ other) × (status ≡ last)
one_certificate_refusal c d bytes text other status last circuit (certificate_too_long long) (certificate_too_long _) = (refl, refl)
one_certificate_refusal c d bytes text other status last circuit (certificate_too_long long) (bad_certificate _ short _ _) = absurd (not_longer parts.Certificate bytes short long)
one_certificate_refusal c d bytes text other status last circuit (bad_certificate _ short _ _) (certificate_too_long long) = absurd (not_longer parts.Certificate bytes short long)
one_certificate_refusal c d bytes text other status last circuit (bad_certificate r _ some is) (bad_certificate s _ some_s is_s) = (ap cert_line (certs.one_refusal c d bytes r s circuit is is_s some some_s), refl)

-- a valid certificate is not refused
valid_or_refused : (c : Circuit) (d : Recording) (bytes : List ℕ) (facts : List Fact) (ends : Option Cell) (text : List ℕ) (status : Status) → IsCircuit c → RefusedCertificate c d bytes text status
    → IsCertificateText c d bytes facts ends → ⊥
valid_or_refused c d bytes facts ends text status circuit (certificate_too_long long) is = not_longer parts.Certificate bytes is.0 long
valid_or_refused c d bytes facts ends text status circuit (bad_certificate r _ some bad) is = some (certs.not_both c d bytes facts ends r circuit is.1 bad)

one_check : (c : Circuit) (d : Recording) (bytes text other : List ℕ) (status last : Status) → IsCircuit c → OnCheck c d bytes text status → OnCheck c d bytes other last → (text ≡ other) × (status ≡ last)
one_check c d bytes text other status last circuit (not_accepted _ _ a) (not_accepted _ _ b) = one_certificate_refusal c d bytes text other status last circuit a b
one_check c d bytes text other status last circuit (not_accepted _ _ a) (is_accepted facts ends is) = absurd (valid_or_refused c d bytes facts ends text status circuit a is)
one_check c d bytes text other status last circuit (is_accepted facts ends is) (not_accepted _ _ b) = absurd (valid_or_refused c d bytes facts ends other last circuit b is)
one_check c d bytes text other status last circuit (is_accepted facts ends is) (is_accepted more next is_too) =
    let same = certs.one_validity c d bytes facts more ends next circuit is.1 is_too.1 in
    (ap (λ f. checked_text c (length f) ends) same.0 ∙ ap (checked_text c (length more)) same.1, ap ends_with same.1)

one_to_check : (held : Held) (certificate : List ℕ) (c : Circuit) (d : Recording) (text other : List ℕ) (status last : Status) → IsCircuit c → OnCertificate held certificate c d text status → OnCertificate held certificate c d other last
    → (text ≡ other) × (status ≡ last)
one_to_check held certificate c d text other status last circuit (bytes, there, on) (again, there_again, on_again) =
    one_check c d again text other status last circuit (subst (λ b. OnCheck c d b text status) (same_held held certificate bytes again there there_again) on) on_again

-- behind a dump
module _ (held : Held) (dump : List ℕ) (c : Circuit) (circuit : IsCircuit c) (P : Recording → List ℕ → Status → Type 0) where
  same_recording : (a b : Recording) → IsDumpOf held dump c a → IsDumpOf held dump c b → a ≡ b
  same_recording a b (bytes, there, is) (again, there_again, is_again) =
      one_recording c again a b circuit (subst (λ x. IsDumpText c x a) (same_held held dump bytes again there there_again) is) is_again

  never_refused : (text : List ℕ) (status : Status) (d : Recording) → OnRefusedDump held dump c text status → IsDumpOf held dump c d → ⊥
  never_refused text status d (bytes, there, refused) (again, there_again, is) =
      dump_or_refused c again d text status circuit (subst (λ b. RefusedDump c b text status) (same_held held dump bytes again there there_again) refused) is

  one_on_dump : ((d : Recording) (text other : List ℕ) (status last : Status) → P d text status → P d other last → (text ≡ other) × (status ≡ last))
      → (text other : List ℕ) (status last : Status) → OnDump held dump c P text status → OnDump held dump c P other last → (text ≡ other) × (status ≡ last)
  one_on_dump one text other status last (inl (bytes, there, a)) (inl (again, there_again, b)) =
      one_dump_refusal c again text other status last circuit (subst (λ x. RefusedDump c x text status) (same_held held dump bytes again there there_again) a) b
  one_on_dump one text other status last (inl a) (inr (d, is, on)) = absurd (never_refused text status d a is)
  one_on_dump one text other status last (inr (d, is, on)) (inl b) = absurd (never_refused other last d b is)
  one_on_dump one text other status last (inr (a, is, on)) (inr (b, again, on_again)) = one b text other status last (subst (λ d. P d text status) (same_recording a b is again) on) on_again

  -- what is so of this recording
  pub on_this_dump : (d : Recording) (text : List ℕ) (status : Status) → IsDumpOf held dump c d → OnDump held dump c P text status → P d text status
  on_this_dump d text status is (inl refused) = absurd (never_refused text status d refused is)
  on_this_dump d text status is (inr (e, again, on)) = subst (λ x. P x text status) (same_recording e d again is) on

-- ---- one answer

one_to_refused : (held : Held) (name text other : List ℕ) (status last : Status) → OnRefused held name text status → OnRefused held name other last → (text ≡ other) × (status ≡ last)
one_to_refused held name text other status last (bytes, there, refused) (again, there_again, refused_again) =
    one_refusal again text other status last (subst (λ b. RefusedNetlist b text status) (same_held held name bytes again there there_again) refused) refused_again

never_both : (held : Held) (name text : List ℕ) (status : Status) (c : Circuit) → OnRefused held name text status → IsNetlistOf held name c → ⊥
never_both held name text status c (bytes, there, refused) (again, there_again, is) =
    refused_or_read again c text status (subst (λ b. RefusedNetlist b text status) (same_held held name bytes again there there_again) refused) is

-- behind a netlist
module _ (held : Held) (netlist : List ℕ) (P : Circuit → List ℕ → Status → Type 0) where
  one_on_netlist : ((c : Circuit) (text other : List ℕ) (status last : Status) → IsCircuit c → P c text status → P c other last → (text ≡ other) × (status ≡ last))
      → (text other : List ℕ) (status last : Status) → OnNetlist held netlist P text status → OnNetlist held netlist P other last → (text ≡ other) × (status ≡ last)
  one_on_netlist one text other status last (inl a) (inl b) = one_to_refused held netlist text other status last a b
  one_on_netlist one text other status last (inl a) (inr (c, is, on)) = absurd (never_both held netlist text status c a is)
  one_on_netlist one text other status last (inr (c, is, on)) (inl b) = absurd (never_both held netlist other last c b is)
  one_on_netlist one text other status last (inr (c, is, on)) (inr (d, again, on_again)) =
      one d text other status last (is_circuit again.0 d again.2) (subst (λ x. P x text status) (same_netlist held netlist c d is again) on) on_again

  -- what is so on this netlist
  pub on_this_netlist : (c : Circuit) (text : List ℕ) (status : Status) → IsNetlistOf held netlist c → OnNetlist held netlist P text status → P c text status
  on_this_netlist c text status is (inl refused) = absurd (never_both held netlist text status c refused is)
  on_this_netlist c text status is (inr (d, again, on)) = subst (λ x. P x text status) (same_netlist held netlist d c again is) on

one_print : (c : Circuit) (text other : List ℕ) (status last : Status) → OnPrint c text status → OnPrint c other last → (text ≡ other) × (status ≡ last)
one_print c text other status last (e, done) (e', done') = (e ∙ sym e', done ∙ sym done')

one_to_request : (held : Held) (request : Request) (text other : List ℕ) (status last : Status) → RequestAnswer held request text status → RequestAnswer held request other last → (text ≡ other) × (status ≡ last)
one_to_request held (restoration netlist dump all) =
    one_on_netlist held netlist (λ c. OnDump held dump c (λ d. OnRecording c d all)) (λ c text other status last is. one_on_dump held dump c is (λ d. OnRecording c d all) (λ d. one_on_recording c d all) text other status last)
one_to_request held (selection netlist width cycles seed) = one_on_netlist held netlist (λ c. OnSelect c width cycles seed) (λ c. one_on_select c width cycles seed)
one_to_request held (simulation netlist cycles seed list) = one_on_netlist held netlist (λ c. OnTrace c cycles seed list) (λ c text other status last is. one_on_trace c cycles seed list text other status last is)
one_to_request held (printing netlist) = one_on_netlist held netlist OnPrint (λ c text other status last is. one_print c text other status last)
one_to_request held (loading number signals) = λ text other status last first second. (one_load_text number signals text other first.0 second.0, first.1 ∙ sym second.1)
one_to_request held (certification netlist dump) =
    one_on_netlist held netlist (λ c. OnDump held dump c (OnCertify c)) (λ c text other status last is. one_on_dump held dump c is (OnCertify c) (one_certificate c) text other status last)
one_to_request held (checking netlist dump certificate) =
    one_on_netlist held netlist (λ c. OnDump held dump c (OnCertificate held certificate c))
    (λ c text other status last is. one_on_dump held dump c is (OnCertificate held certificate c) (λ d text other status last. one_to_check held certificate c d text other status last is) text other status last)

pub one_answer : HasOneAnswer
one_answer words held text other status last (usage refused) (usage _) = (refl, refl)
one_answer words held text other status last (usage refused) (bad_number place (k, rule, h, e, (shaped, first))) = absurd (refused (k, rule, h, e, shaped))
one_answer words held text other status last (usage refused) (asked request _ _ asks _) = absurd (refused (asked_command words request asks))
one_answer words held text other status last (bad_number place (k, rule, h, e, (shaped, first))) (usage refused) = absurd (refused (k, rule, h, e, shaped))
one_answer words held text other status last (bad_number place bad) (bad_number next bad_too) = (ap (λ p. word_line words (word_refusals.Number p)) (one_bad words place next bad bad_too), refl)
one_answer words held text other status last (bad_number place bad) (asked request _ _ asks _) = absurd (asked_good words request place asks bad)
one_answer words held text other status last (asked request _ _ asks on) (usage refused) = absurd (refused (asked_command words request asks))
one_answer words held text other status last (asked request _ _ asks on) (bad_number place bad) = absurd (asked_good words request place asks bad)
one_answer words held text other status last (asked request _ _ asks on) (asked own _ _ asks_own on_own) =
    one_to_request held own text other status last (subst (λ r. RequestAnswer held r text status) (one_request words request own asks asks_own) on) on_own

-- ---- accepted inputs

-- the answer is that to what is asked for
pub answer_to : (words : List (List ℕ)) (held : Held) (request : Request) (text : List ℕ) (status : Status) → Asks words request → Answer words held text status → RequestAnswer held request text status
answer_to words held request text status asks (usage refused) = absurd (refused (asked_command words request asks))
answer_to words held request text status asks (bad_number place bad) = absurd (asked_good words request place asks bad)
answer_to words held request text status asks (asked own _ _ asks_own on) = subst (λ r. RequestAnswer held r text status) (one_request words own request asks_own asks) on

recording_completed : (c : Circuit) (d : Recording) (all : Bool) (text : List ℕ) (status : Status) → OnRecording c d all text status → (status ≡ statuses.Done) ⊎ (status ≡ statuses.Contradiction)
recording_completed c d all text status (clash _ _) = inr refl
recording_completed c d all text status (table _ _ _) = inl refl

ending_completed : (ends : Option Cell) → (ends_with ends ≡ statuses.Done) ⊎ (ends_with ends ≡ statuses.Contradiction)
ending_completed None = inl refl
ending_completed (Some cell) = inr refl

certify_completed : (c : Circuit) (d : Recording) (text : List ℕ) (status : Status) → OnCertify c d text status → (status ≡ statuses.Done) ⊎ (status ≡ statuses.Contradiction)
certify_completed c d text status (certified steps ends is) = ending_completed ends

check_completed : (held : Held) (certificate : List ℕ) (c : Circuit) (d : Recording) (facts : List Fact) (ends : Option Cell) (text : List ℕ) (status : Status) → IsCircuit c → IsCertificateOf held certificate c d facts ends
    → OnCertificate held certificate c d text status → (status ≡ statuses.Done) ⊎ (status ≡ statuses.Contradiction)
check_completed held certificate c d facts ends text status circuit (bytes, there, is) (again, there_again, not_accepted _ _ refused) =
    absurd (valid_or_refused c d again facts ends text status circuit refused (subst (λ b. IsCertificateText c d b facts ends) (same_held held certificate bytes again there there_again) is))
check_completed held certificate c d facts ends text status circuit is (again, there_again, is_accepted own end valid) = ending_completed end

-- what is accepted is completed
completed : (held : Held) (request : Request) (text : List ℕ) (status : Status) → IsAccepted held request → RequestAnswer held request text status → IsCompleted request status
completed held (restoration netlist dump all) text status (c, d, files, _) answer =
    let is : IsNetlistOf held netlist c = files 0 (parts.Netlist, netlist) (lit< tt) in
    let on = on_this_netlist held netlist (λ n. OnDump held dump n (λ r. OnRecording n r all)) c text status is answer in
    recording_completed c d all text status (on_this_dump held dump c (is_circuit is.0 c is.2) (λ r. OnRecording c r all) d text status (files 1 (parts.Dump, dump) (lit< tt)) on)
completed held (selection netlist width cycles seed) text status (c, d, files, (has, few)) answer =
    ranked_done c width cycles seed text status has few (on_this_netlist held netlist (λ c. OnSelect c width cycles seed) c text status (files 0 (parts.Netlist, netlist) (lit< tt)) answer)
completed held (simulation netlist cycles seed list) text status (c, d, files, (sigs, named, few)) answer =
    traced_done c cycles seed list text status sigs named few (on_this_netlist held netlist (λ c. OnTrace c cycles seed list) c text status (files 0 (parts.Netlist, netlist) (lit< tt)) answer)
completed held (printing netlist) text status (c, d, files, _) answer = (on_this_netlist held netlist OnPrint c text status (files 0 (parts.Netlist, netlist) (lit< tt)) answer).1
completed held (loading number signals) text status accepted answer = answer.1
completed held (certification netlist dump) text status (c, d, files, _) answer =
    let is : IsNetlistOf held netlist c = files 0 (parts.Netlist, netlist) (lit< tt) in
    let on = on_this_netlist held netlist (λ n. OnDump held dump n (OnCertify n)) c text status is answer in
    certify_completed c d text status (on_this_dump held dump c (is_circuit is.0 c is.2) (OnCertify c) d text status (files 1 (parts.Dump, dump) (lit< tt)) on)
completed held (checking netlist dump certificate) text status (c, d, files, _) answer =
    let is : IsNetlistOf held netlist c = files 0 (parts.Netlist, netlist) (lit< tt) in
    let circuit = is_circuit is.0 c is.2 in
    let on = on_this_netlist held netlist (λ n. OnDump held dump n (OnCertificate held certificate n)) c text status is answer in
    let (facts, ends, valid) = files 2 (parts.Certificate, certificate) (lit< tt) in
    check_completed held certificate c d facts ends text status circuit valid (on_this_dump held dump c circuit (OnCertificate held certificate c) d text status (files 1 (parts.Dump, dump) (lit< tt)) on)

pub accepted_is_completed : AcceptedIsCompleted
accepted_is_completed words held request asks accepted text status answer = completed held request text status accepted (answer_to words held request text status asks answer)
