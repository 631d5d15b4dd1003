-- How the parts of an answer come together.
use Rattle.std.proofs.Common.{◌≡◌, ℕ, ◌≤◌, ◌<◌, Bool, List, [], ◌∷◌, ◌++◌, map, length, get_or, Option, Some, None, sym, refl, subst, ap, ◌∙◌, inl, inr, arith}
use Rattle.std.proofs.Math.Seq.{get_or-append_seam}
use Rattle.std.proofs.lemmas.List.{length-append}
use Rattle.std.specs.Prelude.{IfErr, IfSome, IsNone, IsErrOf, Result, Err, Ok}
use Rattle.sr_model.specs.Room.{WithRoom}
use Rattle.sr_model.specs.declared.cells.Lit.{Lit}
use Rattle.sr_model.specs.declared.statements.Numbered.{Numbered}
use Rattle.sr_model.specs.Declaration.{Declaration, declared, declarations_of, declaration_of}
use Rattle.sr_model.specs.Netlist.{Unrolled}
use Rattle.sr_model.specs.Closure.{LitSet, Closure, SameLits, passing}
use Rattle.sr_model.specs.Dump.{Known, Row, dump_has}
use Rattle.sr_model.proofs.lemmas.Laws.{monotone}
use Rattle.sr_outside.specs.Told.{Held}
use Rattle.sr_outside.specs.declared.whole.ReadRefusal.{ReadRefusal}
use Rattle.sr_outside.specs.declared.whole.ReadRefusal.TheVariants as reads
use Rattle.bench_reader.specs.declared.reader.BenchRefusal.{BenchRefusal}
use Rattle.bench_reader.specs.declared.reader.BenchRefusal.TheVariants as bench
use Rattle.bench_reader.specs.Grammar as grammar
use Rattle.bench_reader.specs.Refusal as bench_refusal
use Rattle.netlist.specs.declared.checks.NetRefusal.{NetRefusal}
use Rattle.netlist.specs.declared.checks.NetRefusal.TheVariants as net
use Rattle.netlist.specs.Checks as checks
use Rattle.netlist.specs.Circuit.{Circuit, IsNetlist, circuit_of}
use Rattle.dump_reader.specs.declared.refusal.DumpRefusal.{DumpRefusal}
use Rattle.dump_reader.specs.declared.refusal.DumpRefusal.TheVariants as dumps
use Rattle.dump_reader.specs.Recording.{Recording}
use Rattle.unroll.specs.Problem.{Unrolling}
use Rattle.known_planes.specs.Planes.{PlaneSet, has}
use Rattle.sr_model.specs.declared.cells.Cell.{Cell}
use Rattle.certificates.specs.declared.refusal.CertRefusal.{CertRefusal}
use Rattle.certificates.specs.declared.refusal.CertRefusal.TheVariants as certs
use Rattle.certificates.specs.Refusal as cert_refusal
use Rattle.report.specs.declared.refusal.Part.{Part}
use Rattle.report.specs.declared.refusal.Part.TheVariants as parts
use Rattle.report.specs.declared.refusal.Refusal.{Refusal}
use Rattle.report.specs.declared.refusal.Refusal.TheVariants as refusals
use Rattle.report.specs.declared.refusal.WordRefusal.{WordRefusal}
use Rattle.report.specs.declared.refusal.WordRefusal.TheVariants as word_refusals
use Rattle.report.specs.InputRefusals.{too_long_line}
use Rattle.report.specs.Refusals.{HasItem, WordIsThere, item_of, trace_twice_line, unknown_trace_line}
use Rattle.report.specs.Table.{table_text}
use Rattle.restore_program.specs.declared.reply.Reply.{Reply}
use Rattle.restore_program.specs.declared.reply.Reply.TheVariants as replies
use Rattle.restore_program.specs.declared.status.Status.{Status}
use Rattle.restore_program.specs.declared.status.Status.TheVariants as statuses
use Rattle.restore_program.specs.declared.words.Settings.{Settings}
use Rattle.restore_program.specs.Outcome.{IsKnown, IsTraced}
use Rattle.restore_program.specs.Reply.{IsReady, IsResult, part_status, text_of, status_of, refusal_status}
use Rattle.restore_program.specs.Requests.{Request, Asks}
use Rattle.restore_program.specs.TraceRefusals.{HasListAt, IsItem, IsTraceRefusal, list_refusal}
use Rattle.restore_program.specs.Tracing.{OnTrace, name_twice, names_in, refused_names, unknown_name}
use Rattle.restore_program.specs.declared.trace.TraceRefusal.{TraceRefusal}
use Rattle.restore_program.specs.declared.trace.TraceRefusal.TheVariants as traces
use Rattle.restore_program.specs.WordMeaning.{Means}
use Rattle.restore_program.specs.Words.{IsBadNumber, IsCommand}
use Rattle.restore_program.proofs.Gifts.{bad_has_key}
use Rattle.restore_program.specs.Certifying.{ends_with, not_accepted}
use Rattle.restore_program.specs.Texts.{most_bytes, IsNetlistText, RefusedNetlist, netlist_too_long, bad_line, no_netlist, IsDumpRefusal, RefusedDump, dump_too_long, bad_dump, RefusedCertificate, certificate_too_long, bad_certificate}
use Rattle.restore_program.specs.Answer.{OnDump, OnRefusedDump, IsDumpOf, OnCertificate, OnRecording, table, IsNetlistOf, OnNetlist, OnRefused, RequestAnswer, Answer, usage, bad_number, asked}
use Rattle.restore_program.specs.Faults.{AreRefused, NeedsNoInput, TellsEnough, IsWordsFault}
use Rattle.restore_program.specs.ReplyAnswers.{Replies, IsOfWords, ReplyAnswer, fault_of, refusal_fault, unread_refusal}
use Rattle.restore_program.specs.Says.{Says}
use Rattle.restore_program.specs.Status.{IsPlain}

-- ---- from what is known to a dump

abbrev over : Circuit → Recording → Unrolling
over c d = record { circuit = c; cycles = d.cycles }

-- the table of what is known
pub table_answer : (c : Circuit) (d : Recording) (all : Bool) (planes : PlaneSet) (traced : ℕ) → IsKnown (over c d) d.rows planes → IsTraced (over c d) d.rows traced
    → OnRecording c d all (table_text c d.cycles (has (over c d) planes) traced all) statuses.Done
table_answer c d all planes traced is counted =
    subst (λ n. OnRecording c d all (table_text c d.cycles (has (over c d) planes) n all) statuses.Done) (sym counted.0) (table (has (over c d) planes) is.known is.no_clash)

-- what is known from literals that are those of a dump
pub known_from : (u : Unrolled) (rows : List Row) (base : Lit → Bool) (known : LitSet) → ((l : Lit) → base l ≡ dump_has rows l) → SameLits known (Closure u (passing base)) → SameLits known (Known u rows)
known_from u rows base known each same = (
  λ l h. monotone u (passing base) (passing (dump_has rows)) (λ x holds. sym (each x) ∙ holds) l (same.0 l h),
  λ l h. same.1 l (monotone u (passing (dump_has rows)) (passing base) (λ x holds. each x ∙ holds) l h),
)

-- ---- texts that are refused

without_lines-of : (numbered : List Numbered) → map (λ (x : ℕ × Declaration). x.1) (map (λ s. (s.line, declaration_of s.statement)) numbered) ≡ map (λ s. declaration_of s.statement) numbered
without_lines-of [] = refl
without_lines-of (s ∷ numbered) = ap (λ (ds : List Declaration). declaration_of s.statement ∷ ds) (without_lines-of numbered)

-- statements of a text that stand for a netlist
pub netlist_text : (bytes : List ℕ) (s : WithRoom Numbered) (c : Circuit) → length bytes ≤ most_bytes parts.Netlist → grammar.Spells bytes (declarations_of s) → IsNetlist (declared s) → c ≡ circuit_of (declared s)
    → IsNetlistText bytes c
netlist_text bytes s c short spells is e = record {
  few = short;
  stated = declarations_of s;
  spells = spells;
  netlist = subst IsNetlist (sym (without_lines-of s.items)) is;
  circuit = e ∙ ap circuit_of (sym (without_lines-of s.items));
}

pub bad_bench : (words : List (List ℕ)) (bytes : List ℕ) (r : BenchRefusal) → length bytes ≤ most_bytes parts.Netlist → bench_refusal.IsRefusal bytes r → Replies words (RefusedNetlist bytes) (replies.Refused (refusals.Bench r))
bad_bench words bytes bench.NoMemory short is = λ plain. absurd plain
bad_bench words bytes (bench.Syntax line) short is = λ _. bad_line (bench.Syntax line) short (λ e. absurd cc) is
bad_bench words bytes (bench.NameLong line) short is = λ _. bad_line (bench.NameLong line) short (λ e. absurd cc) is
bad_bench words bytes (bench.UnknownKind line) short is = λ _. bad_line (bench.UnknownKind line) short (λ e. absurd cc) is
bad_bench words bytes (bench.WrongPins line) short is = λ _. bad_line (bench.WrongPins line) short (λ e. absurd cc) is

pub bad_net : (words : List (List ℕ)) (bytes : List ℕ) (stated : List (ℕ × Declaration)) (r : NetRefusal) → length bytes ≤ most_bytes parts.Netlist → grammar.Spells bytes stated → checks.IsRefusal stated r
    → Replies words (RefusedNetlist bytes) (replies.Refused (refusals.Net r))
bad_net words bytes stated net.NoMemory short spells is = λ plain. absurd plain
bad_net words bytes stated (net.TooManySignals line) short spells is = λ _. no_netlist stated (net.TooManySignals line) short (λ e. absurd cc) spells is
bad_net words bytes stated (net.TooManyPins line) short spells is = λ _. no_netlist stated (net.TooManyPins line) short (λ e. absurd cc) spells is
bad_net words bytes stated (net.TwoDrivers line) short spells is = λ _. no_netlist stated (net.TwoDrivers line) short (λ e. absurd cc) spells is
bad_net words bytes stated (net.NoDriver name) short spells is = λ _. no_netlist stated (net.NoDriver name) short (λ e. absurd cc) spells is
bad_net words bytes stated (net.Loop name count) short spells is = λ _. no_netlist stated (net.Loop name count) short (λ e. absurd cc) spells is

pub bad_dumped : (words : List (List ℕ)) (c : Circuit) (bytes : List ℕ) (r : DumpRefusal) → length bytes ≤ most_bytes parts.Dump → IsDumpRefusal c bytes r → Replies words (RefusedDump c bytes) (replies.Refused (refusals.Dumped r))
bad_dumped words c bytes dumps.NoMemory short is = λ plain. absurd plain
bad_dumped words c bytes (dumps.Head line) short is = λ _. bad_dump (dumps.Head line) short (λ e. absurd cc) is
bad_dumped words c bytes (dumps.Cycles line) short is = λ _. bad_dump (dumps.Cycles line) short (λ e. absurd cc) is
bad_dumped words c bytes (dumps.TooManyCells line product) short is = λ _. bad_dump (dumps.TooManyCells line product) short (λ e. absurd cc) is
bad_dumped words c bytes (dumps.RowSyntax line) short is = λ _. bad_dump (dumps.RowSyntax line) short (λ e. absurd cc) is
bad_dumped words c bytes (dumps.UnknownSignal line) short is = λ _. bad_dump (dumps.UnknownSignal line) short (λ e. absurd cc) is
bad_dumped words c bytes (dumps.TwiceNamed line) short is = λ _. bad_dump (dumps.TwiceNamed line) short (λ e. absurd cc) is
bad_dumped words c bytes (dumps.RowLength line) short is = λ _. bad_dump (dumps.RowLength line) short (λ e. absurd cc) is
bad_dumped words c bytes (dumps.BadBit line) short is = λ _. bad_dump (dumps.BadBit line) short (λ e. absurd cc) is

pub bad_certified : (words : List (List ℕ)) (c : Circuit) (d : Recording) (bytes : List ℕ) (r : CertRefusal) → length bytes ≤ most_bytes parts.Certificate → cert_refusal.IsRefusal c d bytes r
    → Replies words (RefusedCertificate c d bytes) (replies.Refused (refusals.Cert r))
bad_certified words c d bytes certs.NoMemory short is = λ plain. absurd plain
bad_certified words c d bytes (certs.CertHead line) short is = λ _. bad_certificate (certs.CertHead line) short (λ e. absurd cc) is
bad_certified words c d bytes (certs.CertSyntax line) short is = λ _. bad_certificate (certs.CertSyntax line) short (λ e. absurd cc) is
bad_certified words c d bytes (certs.CertCell line) short is = λ _. bad_certificate (certs.CertCell line) short (λ e. absurd cc) is
bad_certified words c d bytes (certs.NotForced line) short is = λ _. bad_certificate (certs.NotForced line) short (λ e. absurd cc) is

-- ---- a list of names that is refused

-- the name of an item of the list that the word at a place gives
item_name : (words : List (List ℕ)) (place : ℕ) (list : List ℕ) (c : Circuit) (name : List ℕ) (item : ℕ) → HasListAt words place list → IsItem c (names_in list) name item → item_of words place item ≡ name
item_name words place list c name item there is =
    ap (λ names. get_or names item []) (there.names ∙ is.next.whole) ∙ ap (λ n. get_or (is.before ++ name ∷ is.next.after) n []) is.place ∙ get_or-append_seam is.before name is.next.after []

-- it is among the names
item_there : (words : List (List ℕ)) (place : ℕ) (list : List ℕ) (c : Circuit) (name : List ℕ) (item : ℕ) → HasListAt words place list → IsItem c (names_in list) name item → HasItem words place item
item_there words place list c name item there is = record {
  key = there.key;
  there = omega (arith, is.place, ap length (there.names ∙ is.next.whole), length-append is.before (name ∷ is.next.after));
}

pub trace_refused : (words : List (List ℕ)) (place : ℕ) (c : Circuit) (cycles seed : ℕ) (list : List ℕ) (r : TraceRefusal) → HasListAt words place list → IsTraceRefusal c (names_in list) r
    → Replies words (OnTrace c cycles seed list) (replies.Refused (list_refusal r place))
trace_refused words place c cycles seed list (traces.Unknown item) there (name, is, unknown) plain =
    subst (λ n. OnTrace c cycles seed list (unknown_trace_line n) statuses.Words) (sym (item_name words place list c name item there is)) (refused_names _ _ (unknown_name name (is.before, is.next, unknown)))
trace_refused words place c cycles seed list (traces.Twice item) there (name, is, twice) plain =
    subst (λ n. OnTrace c cycles seed list (trace_twice_line n) statuses.Words) (sym (item_name words place list c name item there is)) (refused_names _ _ (name_twice name (is.before, is.next, twice)))
trace_refused words place c cycles seed list traces.NoMemory there is plain = absurd plain

pub trace_ready : (words : List (List ℕ)) (place : ℕ) (c : Circuit) (list : List ℕ) (r : TraceRefusal) → HasListAt words place list → IsTraceRefusal c (names_in list) r → IsReady words (replies.Refused (list_refusal r place))
trace_ready words place c list (traces.Unknown item) there (name, is, unknown) = item_there words place list c name item there is
trace_ready words place c list (traces.Twice item) there (name, is, twice) = item_there words place list c name item there is
trace_ready words place c list traces.NoMemory there is = tt

pub trace_no_fault : (r : TraceRefusal) (place : ℕ) → refusal_fault (list_refusal r place) ≡ None
trace_no_fault (traces.Unknown item) place = refl
trace_no_fault (traces.Twice item) place = refl
trace_no_fault traces.NoMemory place = refl

-- ---- from the bytes that are held

abbrev whole : ReadRefusal → Result (WithRoom ℕ) ReadRefusal
whole refusal = Err refusal

-- what is written of an input that was not read, where this is so of one that is too long
unread_as : (words : List (List ℕ)) (told : Option Held) (name : List ℕ) (part : Part) (P : Held → List ℕ → Status → Type 0)
    → ((held : Held) (bytes : List ℕ) → held name ≡ Some bytes → most_bytes part < length bytes → P held (too_long_line part) (part_status part)) → (refusal : ReadRefusal)
    → (IsErrOf (whole refusal) reads.TooLong → IfSome told (λ held. IfSome (held name) (λ bytes. most_bytes part < length bytes)))
    → IfSome told (λ held. IsNone (held name) → IsErrOf (whole refusal) reads.Fault)
    → IfSome told (λ held. Replies words (P held) (replies.Refused (unread_refusal part refusal)))
unread_as words None name part P too_long refusal long missing = tt
unread_as words (Some held) name part P too_long reads.Fault long missing = λ plain. absurd plain
unread_as words (Some held) name part P too_long reads.NoMemory long missing = λ plain. absurd plain
unread_as words (Some held) name part P too_long reads.TooLong long missing = λ _. at (held name) refl where
  at : (there : Option (List ℕ)) → held name ≡ there → P held (too_long_line part) (part_status part)
  at None e = let no : whole reads.TooLong ≡ whole reads.Fault = missing (subst IsNone (sym e) refl) in absurd cc
  at (Some bytes) e = too_long held bytes e (subst (λ o. IfSome o (λ b. most_bytes part < length b)) e (long refl))

module _ (words : List (List ℕ)) (told : Option Held) (name : List ℕ) (refusal : ReadRefusal) where
  abbrev WasLong : Part → Type 0
  WasLong part = IsErrOf (whole refusal) reads.TooLong → IfSome told (λ held. IfSome (held name) (λ bytes. most_bytes part < length bytes))

  abbrev WasMissing : Type 0
  WasMissing = IfSome told (λ held. IsNone (held name) → IsErrOf (whole refusal) reads.Fault)

  pub unread_netlist : WasLong parts.Netlist → WasMissing → IfSome told (λ held. Replies words (OnRefused held name) (replies.Refused (unread_refusal parts.Netlist refusal)))
  unread_netlist = unread_as words told name parts.Netlist (λ held. OnRefused held name) (λ held bytes there long. (bytes, there, netlist_too_long long)) refusal

  pub unread_dump : (c : Circuit) → WasLong parts.Dump → WasMissing → IfSome told (λ held. Replies words (OnRefusedDump held name c) (replies.Refused (unread_refusal parts.Dump refusal)))
  unread_dump c = unread_as words told name parts.Dump (λ held. OnRefusedDump held name c) (λ held bytes there long. (bytes, there, dump_too_long long)) refusal

  pub unread_certificate : (c : Circuit) (d : Recording) → WasLong parts.Certificate → WasMissing
      → IfSome told (λ held. Replies words (OnCertificate held name c d) (replies.Refused (unread_refusal parts.Certificate refusal)))
  unread_certificate c d =
      unread_as words told name parts.Certificate (λ held. OnCertificate held name c d) (λ held bytes there long. (bytes, there, not_accepted _ _ (certificate_too_long long))) refusal

-- such a reply is ready
pub unread_ready : (words : List (List ℕ)) (part : Part) (refusal : ReadRefusal) → IsReady words (replies.Refused (unread_refusal part refusal))
unread_ready words part reads.Fault = tt
unread_ready words part reads.TooLong = tt
unread_ready words part reads.NoMemory = tt

-- and not about the words
pub unread_input : (part : Part) (refusal : ReadRefusal) → ¬ IsOfWords (replies.Refused (unread_refusal part refusal))
unread_input part reads.Fault of = of
unread_input part reads.TooLong of = of
unread_input part reads.NoMemory of = of

-- what is so of a text that is held
pub of_held : (words : List (List ℕ)) (told : Option Held) (name text : List ℕ) (P : List ℕ → List ℕ → Status → Type 0) (reply : Reply) → IfSome told (λ held. held name ≡ Some text) → Replies words (P text) reply
    → IfSome told (λ held. Replies words (λ written status. (bytes : List ℕ) × (held name ≡ Some bytes) × P bytes written status) reply)
of_held words None name text P reply is answer = tt
of_held words (Some held) name text P reply is answer = λ plain. (text, is, answer plain)

pub refused_by_text : {T : Type 0} (told : Option Held) (name text : List ℕ) (P : List ℕ → List ℕ → Status → Type 0) (result : Result T Reply) → IfSome told (λ held. held name ≡ Some text)
    → IfErr result (λ reply. (words : List (List ℕ)) → Replies words (P text) reply)
    → IfErr result (λ reply. (words : List (List ℕ)) → IfSome told (λ held. Replies words (λ written status. (bytes : List ℕ) × (held name ≡ Some bytes) × P bytes written status) reply))
refused_by_text told name text P (Ok n) is refused = cc
refused_by_text told name text P (Err reply) is refused = λ words. of_held words told name text P reply is (refused words)

-- ---- behind a netlist

module _ (words : List (List ℕ)) (netlist : List ℕ) (P : Held → Circuit → List ℕ → Status → Type 0) (reply : Reply) where
  pub netlist_refused : (told : Option Held) → IfSome told (λ held. Replies words (OnRefused held netlist) reply) → IfSome told (λ held. Replies words (OnNetlist held netlist (P held)) reply)
  netlist_refused None refused = tt
  netlist_refused (Some held) refused = λ plain. inl (refused plain)

  pub netlist_read : (told : Option Held) (c : Circuit) → IfSome told (λ held. IsNetlistOf held netlist c) → IfSome told (λ held. Replies words (P held c) reply) → IfSome told (λ held. Replies words (OnNetlist held netlist (P held)) reply)
  netlist_read None c is answer = tt
  netlist_read (Some held) c is answer = λ plain. inr (c, is, answer plain)

-- ---- behind a dump

module _ (words : List (List ℕ)) (dump : List ℕ) (c : Circuit) (P : Held → Recording → List ℕ → Status → Type 0) (reply : Reply) where
  pub dump_refused : (told : Option Held) → IfSome told (λ held. Replies words (OnRefusedDump held dump c) reply) → IfSome told (λ held. Replies words (OnDump held dump c (P held)) reply)
  dump_refused None refused = tt
  dump_refused (Some held) refused = λ plain. inl (refused plain)

  pub dump_read : (told : Option Held) (d : Recording) → IfSome told (λ held. IsDumpOf held dump c d) → IfSome told (λ held. Replies words (P held d) reply) → IfSome told (λ held. Replies words (OnDump held dump c (P held)) reply)
  dump_read None d is answer = tt
  dump_read (Some held) d is answer = λ plain. inr (d, is, answer plain)

-- what is so whatever is told
pub told_or_not : (told : Option Held) (P : Held → Type 0) → ((held : Held) → P held) → IfSome told P
told_or_not None P each = tt
told_or_not (Some held) P each = each held

-- ---- what the words ask for is answered

pub answers_asked : (told : Option Held) (words : List (List ℕ)) (request : Request) (reply : Reply) → Asks words request → IfSome told (λ held. Replies words (RequestAnswer held request) reply)
    → (NeedsNoInput words → (held : Held) → Replies words (RequestAnswer held request) reply) → ReplyAnswer words told reply
answers_asked told words request reply asks answer alone held (inl is) plain =
    asked request (text_of words reply) (status_of reply) asks (subst (λ t. IfSome t (λ h. Replies words (RequestAnswer h request) reply)) is answer plain)
answers_asked told words request reply asks answer alone held (inr needs) plain = asked request (text_of words reply) (status_of reply) asks (alone needs held plain)

-- words that are refused
pub refused_as : (words : List (List ℕ)) (r : WordRefusal) (result : Result Settings WordRefusal) → result ≡ Err r → (result ≡ Err word_refusals.Usage → ¬ IsCommand words)
    → ((place : ℕ) → result ≡ Err (word_refusals.Number place) → IsBadNumber words place) → Means words (Err r)
refused_as words word_refusals.Usage result is no_shape bad = no_shape is
refused_as words (word_refusals.Number place) result is no_shape bad = bad place is

pub answers_refused : (told : Option Held) (words : List (List ℕ)) (r : WordRefusal) → Means words (Err r) → ReplyAnswer words told (replies.Refused (refusals.Words r))
answers_refused told words word_refusals.Usage means held enough plain = usage means
answers_refused told words (word_refusals.Number place) means held enough plain = bad_number place means

pub refused_ready : (words : List (List ℕ)) (r : WordRefusal) → Means words (Err r) → WordIsThere words r
refused_ready words word_refusals.Usage means = tt
refused_ready words (word_refusals.Number place) means = bad_has_key words place means

pub words_refused : (words : List (List ℕ)) (r : WordRefusal) → Means words (Err r) → AreRefused words
words_refused words word_refusals.Usage means = inl means
words_refused words (word_refusals.Number place) means = inr (place, means)

-- ---- what a reply's text and status say

plainly : (words : List (List ℕ)) (told : Option Held) (reply : Reply) → ReplyAnswer words told reply → IsPlain (status_of reply) → (held : Held) → TellsEnough words told held → Answer words held (text_of words reply) (status_of reply)
plainly words told reply answer plain held enough = answer held enough plain

says_refused : (words : List (List ℕ)) (told : Option Held) (shaky : Option (List ℕ → Bool)) (r : Refusal) → ReplyAnswer words told (replies.Refused r) → IfSome (refusal_fault r) (IsWordsFault words told shaky)
    → Says words told shaky (text_of words (replies.Refused r)) (refusal_status r)
says_refused words told shaky (refusals.Fault part) answer fault = (part, refl, fault)
says_refused words told shaky refusals.NoMemory answer fault = refl
says_refused words told shaky (refusals.Words r) answer fault = plainly words told (replies.Refused (refusals.Words r)) answer tt
says_refused words told shaky (refusals.CellsByWords product) answer fault = plainly words told (replies.Refused (refusals.CellsByWords product)) answer tt
says_refused words told shaky (refusals.WidthOver flip_flops) answer fault = plainly words told (replies.Refused (refusals.WidthOver flip_flops)) answer tt
says_refused words told shaky (refusals.TraceUnknown place item) answer fault = plainly words told (replies.Refused (refusals.TraceUnknown place item)) answer tt
says_refused words told shaky (refusals.TraceTwice place item) answer fault = plainly words told (replies.Refused (refusals.TraceTwice place item)) answer tt
says_refused words told shaky (refusals.TooLong parts.Netlist) answer fault = plainly words told (replies.Refused (refusals.TooLong parts.Netlist)) answer tt
says_refused words told shaky (refusals.TooLong parts.Dump) answer fault = plainly words told (replies.Refused (refusals.TooLong parts.Dump)) answer tt
says_refused words told shaky (refusals.TooLong parts.Certificate) answer fault = plainly words told (replies.Refused (refusals.TooLong parts.Certificate)) answer tt
says_refused words told shaky (refusals.Cert certs.NoMemory) answer fault = refl
says_refused words told shaky (refusals.Cert (certs.CertHead line)) answer fault = plainly words told (replies.Refused (refusals.Cert (certs.CertHead line))) answer tt
says_refused words told shaky (refusals.Cert (certs.CertSyntax line)) answer fault = plainly words told (replies.Refused (refusals.Cert (certs.CertSyntax line))) answer tt
says_refused words told shaky (refusals.Cert (certs.CertCell line)) answer fault = plainly words told (replies.Refused (refusals.Cert (certs.CertCell line))) answer tt
says_refused words told shaky (refusals.Cert (certs.NotForced line)) answer fault = plainly words told (replies.Refused (refusals.Cert (certs.NotForced line))) answer tt
says_refused words told shaky (refusals.Bench bench.NoMemory) answer fault = refl
says_refused words told shaky (refusals.Bench (bench.Syntax line)) answer fault = plainly words told (replies.Refused (refusals.Bench (bench.Syntax line))) answer tt
says_refused words told shaky (refusals.Bench (bench.NameLong line)) answer fault = plainly words told (replies.Refused (refusals.Bench (bench.NameLong line))) answer tt
says_refused words told shaky (refusals.Bench (bench.UnknownKind line)) answer fault = plainly words told (replies.Refused (refusals.Bench (bench.UnknownKind line))) answer tt
says_refused words told shaky (refusals.Bench (bench.WrongPins line)) answer fault = plainly words told (replies.Refused (refusals.Bench (bench.WrongPins line))) answer tt
says_refused words told shaky (refusals.Net net.NoMemory) answer fault = refl
says_refused words told shaky (refusals.Net (net.TooManySignals line)) answer fault = plainly words told (replies.Refused (refusals.Net (net.TooManySignals line))) answer tt
says_refused words told shaky (refusals.Net (net.TooManyPins line)) answer fault = plainly words told (replies.Refused (refusals.Net (net.TooManyPins line))) answer tt
says_refused words told shaky (refusals.Net (net.TwoDrivers line)) answer fault = plainly words told (replies.Refused (refusals.Net (net.TwoDrivers line))) answer tt
says_refused words told shaky (refusals.Net (net.NoDriver name)) answer fault = plainly words told (replies.Refused (refusals.Net (net.NoDriver name))) answer tt
says_refused words told shaky (refusals.Net (net.Loop name count)) answer fault = plainly words told (replies.Refused (refusals.Net (net.Loop name count))) answer tt
says_refused words told shaky (refusals.Dumped dumps.NoMemory) answer fault = refl
says_refused words told shaky (refusals.Dumped (dumps.Head line)) answer fault = plainly words told (replies.Refused (refusals.Dumped (dumps.Head line))) answer tt
says_refused words told shaky (refusals.Dumped (dumps.Cycles line)) answer fault = plainly words told (replies.Refused (refusals.Dumped (dumps.Cycles line))) answer tt
says_refused words told shaky (refusals.Dumped (dumps.TooManyCells line product)) answer fault = plainly words told (replies.Refused (refusals.Dumped (dumps.TooManyCells line product))) answer tt
says_refused words told shaky (refusals.Dumped (dumps.RowSyntax line)) answer fault = plainly words told (replies.Refused (refusals.Dumped (dumps.RowSyntax line))) answer tt
says_refused words told shaky (refusals.Dumped (dumps.UnknownSignal line)) answer fault = plainly words told (replies.Refused (refusals.Dumped (dumps.UnknownSignal line))) answer tt
says_refused words told shaky (refusals.Dumped (dumps.TwiceNamed line)) answer fault = plainly words told (replies.Refused (refusals.Dumped (dumps.TwiceNamed line))) answer tt
says_refused words told shaky (refusals.Dumped (dumps.RowLength line)) answer fault = plainly words told (replies.Refused (refusals.Dumped (dumps.RowLength line))) answer tt
says_refused words told shaky (refusals.Dumped (dumps.BadBit line)) answer fault = plainly words told (replies.Refused (refusals.Dumped (dumps.BadBit line))) answer tt

says_text : (words : List (List ℕ)) (told : Option Held) (shaky : Option (List ℕ → Bool)) (text : WithRoom ℕ) (status : Status) → IsResult status → ReplyAnswer words told (replies.Text text status) → Says words told shaky text.items status
says_text words told shaky text statuses.Done result answer = plainly words told (replies.Text text statuses.Done) answer tt
says_text words told shaky text statuses.Contradiction result answer = plainly words told (replies.Text text statuses.Contradiction) answer tt
says_text words told shaky text statuses.Words result answer = absurd result
says_text words told shaky text statuses.Netlist result answer = absurd result
says_text words told shaky text statuses.Dump result answer = absurd result
says_text words told shaky text statuses.ReadFault result answer = absurd result
says_text words told shaky text statuses.WriteFault result answer = absurd result
says_text words told shaky text statuses.NoMemory result answer = absurd result
says_text words told shaky text statuses.Certificate result answer = absurd result

-- how a run ends with a contradiction or without one
says_ending : (words : List (List ℕ)) (told : Option Held) (shaky : Option (List ℕ → Bool)) (text : List ℕ) (clash : Option Cell) → (IsPlain (ends_with clash) → (held : Held) → TellsEnough words told held → Answer words held text (ends_with clash))
    → Says words told shaky text (ends_with clash)
says_ending words told shaky text None answer = answer tt
says_ending words told shaky text (Some cell) answer = answer tt

pub says : (words : List (List ℕ)) (told : Option Held) (shaky : Option (List ℕ → Bool)) (reply : Reply) → IsReady words reply → ReplyAnswer words told reply → IfSome (fault_of reply) (IsWordsFault words told shaky)
    → Says words told shaky (text_of words reply) (status_of reply)
says words told shaky (replies.Refused r) ready answer fault = says_refused words told shaky r answer fault
says words told shaky (replies.Known t) ready answer fault = plainly words told (replies.Known t) answer tt
says words told shaky (replies.Clash n cell) ready answer fault = plainly words told (replies.Clash n cell) answer tt
says words told shaky (replies.Text text status) ready answer fault = says_text words told shaky text status ready answer
says words told shaky (replies.Ranking ranked) ready answer fault = plainly words told (replies.Ranking ranked) answer tt
says words told shaky (replies.Load loaded) ready answer fault = plainly words told (replies.Load loaded) answer tt
says words told shaky (replies.Certificate n log) ready answer fault = says_ending words told shaky (text_of words (replies.Certificate n log)) log.clash (plainly words told (replies.Certificate n log) answer)
says words told shaky (replies.Checked n facts clash) ready answer fault = says_ending words told shaky (text_of words (replies.Checked n facts clash)) clash (plainly words told (replies.Checked n facts clash) answer)
