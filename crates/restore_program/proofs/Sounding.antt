-- What an answer says of the executions that match the dump.
use Rattle.std.proofs.Common.{◌≡◌, ℕ, Bool, List, [], ◌∷◌, length, get_or, Option, Some, None, inl, inr, refl, sym, subst, ◌∙◌, arith}
use Rattle.std.specs.Prelude.{IfSome}
use Rattle.std.specs.List.{All}
use Rattle.std.proofs.lemmas.List.{get_or-map, length-map}
use Rattle.std.proofs.lemmas.List.Elements.{All-cons, All-nil}
use Rattle.sr_model.specs.declared.cells.Cell.{Cell}
use Rattle.sr_model.specs.Closure.{HasBoth, passing}
use Rattle.sr_model.specs.Dump.{Matches, dump_has}
use Rattle.sr_model.specs.Netlist.{Has, IsExecution, Valuation}
use Rattle.sr_model.proofs.lemmas.Laws.{no_execution_has_both}
use Rattle.sr_outside.specs.Told.{Held}
use Rattle.netlist.specs.Circuit.{Circuit, IsCircuit, unrolled_over}
use Rattle.report.specs.declared.refusal.Part.TheVariants as parts
use Rattle.dump_reader.specs.Recording.{Recording}
use Rattle.dump_reader.proofs.lemmas.Laws as dumps
use Rattle.plain_close.proofs.lemmas.Laws.{clash_is_first}
use Rattle.certificates.specs.declared.claim.Fact.{Fact}
use Rattle.certificates.specs.Logs.{facts_of}
use Rattle.certificates.specs.Validity.{IsValid}
use Rattle.certificates.proofs.lemmas.Laws as certs
use Rattle.report.specs.Table.{known_rows}
use Rattle.report.proofs.lemmas.Laws.{table_is_dump, table_again, table_is_sound}
use Rattle.restore_program.specs.declared.status.Status.{Status}
use Rattle.restore_program.specs.declared.status.Status.TheVariants as statuses
use Rattle.restore_program.specs.declared.reply.Reply.{Reply}
use Rattle.restore_program.specs.AnswerLaws.{CertifiedIsAccepted}
use Rattle.restore_program.specs.Certifying.{OnCertify, certified, is_accepted, not_accepted}
use Rattle.restore_program.specs.Reply.{IsResult, text_of, status_of}
use Rattle.restore_program.specs.Requests.{Asks, File, Request, certification, checking, files_of, restoration, selection, simulation, printing, loading}
use Rattle.restore_program.specs.Words.{Checks, IsCertify, IsCheck, Restores, IsRestore}
use Rattle.restore_program.specs.Texts.{netlist_too_long, bad_line, no_netlist, dump_too_long, bad_dump, certificate_too_long, bad_certificate, given_rows, KnownFrom, SpellsDump, traced_count}
use Rattle.restore_program.specs.Answer.{Answer, usage, bad_number, asked, IsCertificateOf, IsDumpOf, IsNetlistOf, OnCertificate, OnDump, OnNetlist, OnRefused, OnRefusedDump, OnRecording, clash, table}
use Rattle.restore_program.specs.Faults.{IsAcceptedOn, TellsEnough}
use Rattle.restore_program.specs.ReplyAnswers.{ReplyAnswer}
use Rattle.restore_program.specs.Status.{IsPlain}
use Rattle.restore_program.specs.Sound.{Accepts, IsAbout, IsAccepted, IsCompleted, IsDumpAgain, IsSoundCheck, IsSoundTable, IsValidCertificate, NoneMatches}
use Rattle.restore_program.specs.Selecting.{OnSelect, ranked, too_many_cells, width_over}
use Rattle.restore_program.specs.Tracing.{OnTrace, unknown_name, name_twice, many_cells, refused_cells, refused_names, traced}
use Rattle.restore_program.proofs.OneAnswer.{accepted_is_completed, answer_to, clash_known, is_circuit}

-- a refused netlist has its own status
refused_status : (held : Held) (netlist text : List ℕ) (status : Status) → OnRefused held netlist text status → status ≡ statuses.Netlist
refused_status held netlist text status (bytes, there, netlist_too_long long) = refl
refused_status held netlist text status (bytes, there, bad_line r short some is) = refl
refused_status held netlist text status (bytes, there, no_netlist stated r short some spells is) = refl

-- a refused dump has its own status
pub refused_dump_status : (held : Held) (dump : List ℕ) (c : Circuit) (text : List ℕ) (status : Status) → OnRefusedDump held dump c text status → status ≡ statuses.Dump
refused_dump_status held dump c text status (bytes, there, dump_too_long long) = refl
refused_dump_status held dump c text status (bytes, there, bad_dump r short some bad) = refl

-- ---- a table

module _ (words : List (List ℕ)) (held : Held) (netlist dump : List ℕ) (all : Bool) (asks : Restores words netlist dump all) (c : Circuit) (is : IsNetlistOf held netlist c) (d : Recording) (read : IsDumpOf held dump c d) where
  accepts : Accepts words held c d all
  accepts = record { netlist = netlist; dump = dump; asked = asks; netlist_held = is; dump_held = read }

  sound_recording : (text : List ℕ) (status : Status) → OnRecording c d all text status → status ≡ statuses.Done → IsSoundTable words text held
  sound_recording text status (clash cell clashes) e = absurd cc
  sound_recording text status (table known same no_clash) e = record {
    c = c;
    d = d;
    all = all;
    accepts = accepts;
    known = known;
    is_known = same;
    is_table = refl;
    matched = λ v runs matches. table_is_sound c d known all same v runs matches;
  }

  again_recording : (text : List ℕ) (status : Status) → OnRecording c d all text status → status ≡ statuses.Done → IsDumpAgain words text held
  again_recording text status (clash cell clashes) e = absurd cc
  again_recording text status (table known same no_clash) e = record {
    c = c;
    d = d;
    all = all;
    accepts = accepts;
    own = known_rows c d.cycles known all;
    spells = let spelled = read.2.1 in table_is_dump c d.cycles known (traced_count c d) all (is_circuit is.0 c is.2) spelled.front.front.is_cycles_line.0 spelled.front.few;
    same_rows = λ again known_again. table_again c d known again all same no_clash known_again;
  }

sound_answer : (words : List (List ℕ)) (held : Held) (text : List ℕ) (status : Status) → IsRestore words → Answer words held text status → status ≡ statuses.Done → IsSoundTable words text held × IsDumpAgain words text held
sound_answer words held text status (netlist, dump, all, asks) answer e = on (answer_to words held (restoration netlist dump all) text status asks answer)
  where
    on : OnNetlist held netlist (λ c. OnDump held dump c (λ d. OnRecording c d all)) text status → IsSoundTable words text held × IsDumpAgain words text held
    on (inl refused) = let wrong = sym (refused_status held netlist text status refused) ∙ e in absurd cc
    on (inr (c, is, inl refused)) = let wrong = sym (refused_dump_status held dump c text status refused) ∙ e in absurd cc
    on (inr (c, is, inr (d, read, on_d))) =
        (sound_recording words held netlist dump all asks c is d read text status on_d e, again_recording words held netlist dump all asks c is d read text status on_d e)

-- ---- a contradiction

no_clash_ranking : (c : Circuit) (width cycles seed : ℕ) (text : List ℕ) (status : Status) → OnSelect c width cycles seed text status → status ≡ statuses.Contradiction → ⊥
no_clash_ranking c width cycles seed text status (width_over less) e = cc
no_clash_ranking c width cycles seed text status (too_many_cells _ _ has (many_cells many)) e = cc
no_clash_ranking c width cycles seed text status (ranked t has few ranking) e = cc

no_clash_trace : (c : Circuit) (cycles seed : ℕ) (list text : List ℕ) (status : Status) → OnTrace c cycles seed list text status → status ≡ statuses.Contradiction → ⊥
no_clash_trace c cycles seed list text status (refused_names _ _ (unknown_name name unknown)) e = cc
no_clash_trace c cycles seed list text status (refused_names _ _ (name_twice name twice)) e = cc
no_clash_trace c cycles seed list text status (refused_cells sigs _ _ named (many_cells many)) e = cc
no_clash_trace c cycles seed list text status (traced sigs t named few traces) e = cc

no_refused_clash : (held : Held) (netlist text : List ℕ) (status : Status) → OnRefused held netlist text status → status ≡ statuses.Contradiction → ⊥
no_refused_clash held netlist text status refused e = let wrong = sym (refused_status held netlist text status refused) ∙ e in absurd cc

-- behind a netlist and a dump
module _ (words : List (List ℕ)) (held : Held) (request : Request) (netlist dump : List ℕ) (others : List File) (P : Circuit → Recording → List ℕ → Status → Type 0) (asks : Asks words request)
    (files : files_of request ≡ (parts.Netlist, netlist) ∷ (parts.Dump, dump) ∷ others) where
  pub about : (c : Circuit) (d : Recording) → IsNetlistOf held netlist c → IsDumpOf held dump c d → IsAbout words held c d
  about c d is read = record { request = request; asked = asks; netlist = netlist; dump = dump; others = others; files = files; netlist_held = is; dump_held = read }

  -- a contradiction comes from the recording, and where it says that none matches there is none
  clash_on : (text : List ℕ) (status : Status) → ((c : Circuit) (d : Recording) → IsCircuit c → P c d text status → status ≡ statuses.Contradiction → (v : Valuation) → IsExecution (unrolled_over c d.cycles) v → Matches v (given_rows d) → ⊥)
      → OnNetlist held netlist (λ c. OnDump held dump c (P c)) text status → status ≡ statuses.Contradiction → NoneMatches words held
  clash_on text status none (inl refused) e = absurd (no_refused_clash held netlist text status refused e)
  clash_on text status none (inr (c, is, inl refused)) e = let wrong = sym (refused_dump_status held dump c text status refused) ∙ e in absurd cc
  clash_on text status none (inr (c, is, inr (d, read, on))) e = (c, d, about c d is read, none c d (is_circuit is.0 c is.2) on e)

-- none matches where both literals of a cell are known
none_with_both : (c : Circuit) (d : Recording) (cell : Cell) → HasBoth (KnownFrom c d) cell → (v : Valuation) → IsExecution (unrolled_over c d.cycles) v → Matches v (given_rows d) → ⊥
none_with_both c d cell both v runs matches = no_execution_has_both (unrolled_over c d.cycles) (passing (dump_has d.rows)) cell both v runs matches

clash_recording : (c : Circuit) (d : Recording) (all : Bool) (text : List ℕ) (status : Status) → IsCircuit c → OnRecording c d all text status → status ≡ statuses.Contradiction
    → (v : Valuation) → IsExecution (unrolled_over c d.cycles) v → Matches v (given_rows d) → ⊥
clash_recording c d all text status circuit (table known same no_clash) e = absurd cc
clash_recording c d all text status circuit (clash cell clashes) e = none_with_both c d cell (clash_known c d cell clashes)

clash_log : (c : Circuit) (d : Recording) (text : List ℕ) (status : Status) → IsCircuit c → OnCertify c d text status → status ≡ statuses.Contradiction
    → (v : Valuation) → IsExecution (unrolled_over c d.cycles) v → Matches v (given_rows d) → ⊥
clash_log c d text status circuit (certified steps None is) e = absurd cc
clash_log c d text status circuit (certified steps (Some cell) is) e = none_with_both c d cell (clash_known c d cell (clash_is_first (unrolled_over c d.cycles) (dump_has d.rows) steps cell is))

clash_check : (held : Held) (certificate : List ℕ) (c : Circuit) (d : Recording) (text : List ℕ) (status : Status) → IsCircuit c → OnCertificate held certificate c d text status → status ≡ statuses.Contradiction
    → (v : Valuation) → IsExecution (unrolled_over c d.cycles) v → Matches v (given_rows d) → ⊥
clash_check held certificate c d text status circuit (bytes, there, not_accepted _ _ (certificate_too_long long)) e = absurd cc
clash_check held certificate c d text status circuit (bytes, there, not_accepted _ _ (bad_certificate r short some bad)) e = absurd cc
clash_check held certificate c d text status circuit (bytes, there, is_accepted facts None valid) e = absurd cc
clash_check held certificate c d text status circuit (bytes, there, is_accepted facts (Some cell) valid) e = none_with_both c d cell (certs.clash_known c d bytes facts cell valid.1)

clash_answer : (words : List (List ℕ)) (held : Held) (text : List ℕ) (status : Status) → Answer words held text status → status ≡ statuses.Contradiction → NoneMatches words held
clash_answer words held text status (usage other) e = absurd cc
clash_answer words held text status (bad_number place bad) e = absurd cc
clash_answer words held text status (asked (restoration netlist dump all) t k asks on) e =
    clash_on words held (restoration netlist dump all) netlist dump [] (λ c d. OnRecording c d all) asks refl t k (λ c d circuit. clash_recording c d all t k circuit) on e
clash_answer words held text status (asked (certification netlist dump) t k asks on) e = clash_on words held (certification netlist dump) netlist dump [] OnCertify asks refl t k (λ c d circuit. clash_log c d t k circuit) on e
clash_answer words held text status (asked (checking netlist dump certificate) t k asks on) e =
    clash_on words held (checking netlist dump certificate) netlist dump ((parts.Certificate, certificate) ∷ []) (OnCertificate held certificate) asks refl t k (λ c d circuit. clash_check held certificate c d t k circuit) on e
clash_answer words held text status (asked (selection netlist width cycles seed) t k asks (inl refused)) e = absurd (no_refused_clash held netlist t k refused e)
clash_answer words held text status (asked (selection netlist width cycles seed) t k asks (inr (c, is, on))) e = absurd (no_clash_ranking c width cycles seed t k on e)
clash_answer words held text status (asked (simulation netlist cycles seed list) t k asks (inl refused)) e = absurd (no_refused_clash held netlist t k refused e)
clash_answer words held text status (asked (simulation netlist cycles seed list) t k asks (inr (c, is, on))) e = absurd (no_clash_trace c cycles seed list t k on e)
clash_answer words held text status (asked (printing netlist) t k asks (inl refused)) e = absurd (no_refused_clash held netlist t k refused e)
clash_answer words held text status (asked (printing netlist) t k asks (inr (c, is, (same, done)))) e = let wrong = sym done ∙ e in absurd cc
clash_answer words held text status (asked (loading number signals) t k asks (loaded, done)) e = let wrong = sym done ∙ e in absurd cc

-- ---- certificates

-- a certificate comes with the status of a result, and so from a recording
result_on : (held : Held) (netlist dump : List ℕ) (P : Circuit → Recording → List ℕ → Status → Type 0) (text : List ℕ) (status : Status) → IsResult status → OnNetlist held netlist (λ c. OnDump held dump c (P c)) text status
    → (c : Circuit) × (d : Recording) × IsNetlistOf held netlist c × IsDumpOf held dump c d × P c d text status
result_on held netlist dump P text status result (inl refused) = absurd (subst IsResult (refused_status held netlist text status refused) result)
result_on held netlist dump P text status result (inr (c, is, inl refused)) = absurd (subst IsResult (refused_dump_status held dump c text status refused) result)
result_on held netlist dump P text status result (inr (c, is, inr (d, read, on))) = (c, d, is, read, on)

-- the text of a log is valid
valid_text : (c : Circuit) (d : Recording) (bytes text : List ℕ) (status : Status) → IsCircuit c → SpellsDump c bytes d → OnCertify c d text status → (facts : List Fact) × (ends : Option Cell) × IsValid c d text facts ends
valid_text c d bytes text status circuit spells (certified steps ends is) =
    let (recorded, within) = dumps.spells_recording c bytes d circuit spells in
    (facts_of steps, ends, certs.printed_is_valid c d steps ends circuit recorded within is)

valid_answer : (words : List (List ℕ)) (held : Held) (text : List ℕ) (status : Status) → IsCertify words → Answer words held text status → IsResult status → IsValidCertificate words text held
valid_answer words held text status (netlist, dump, asks) answer result =
    let (c, d, is, read, on) = result_on held netlist dump OnCertify text status result (answer_to words held (certification netlist dump) text status asks answer) in
    let (facts, ends, valid) = valid_text c d read.0 text status (is_circuit is.0 c is.2) read.2.1 on in
    record { c = c; d = d; about = about words held (certification netlist dump) netlist dump [] OnCertify asks refl c d is read; facts = facts; clash = ends; valid = valid }

sound_facts : (c : Circuit) (d : Recording) (bytes : List ℕ) (facts : List Fact) (ends : Option Cell) → IsValid c d bytes facts ends → (v : Valuation) → IsExecution (unrolled_over c d.cycles) v → Matches v (given_rows d)
    → All (λ fact. Has v fact.lit) facts
sound_facts c d bytes facts ends valid v runs matches i d0 within =
    certs.facts_sound c d bytes facts ends (get_or facts i d0).lit v valid (i, omega (arith, within, length-map facts (λ (fact : Fact). fact.lit)), get_or-map (λ (fact : Fact). fact.lit) facts i d0 (get_or facts i d0).lit within) runs matches

sound_check : (words : List (List ℕ)) (held : Held) (netlist dump certificate : List ℕ) (c : Circuit) (d : Recording) (text : List ℕ) (status : Status) → Checks words netlist dump certificate → IsNetlistOf held netlist c
    → IsDumpOf held dump c d → OnCertificate held certificate c d text status → IsResult status → IsSoundCheck words text held
unfolding about
sound_check words held netlist dump certificate c d text status asks is read (bytes, there, not_accepted _ _ (certificate_too_long long)) result = absurd result
sound_check words held netlist dump certificate c d text status asks is read (bytes, there, not_accepted _ _ (bad_certificate r short some bad)) result = absurd result
sound_check words held netlist dump certificate c d text status asks is read (bytes, there, is_accepted facts ends valid) result = record {
  c = c;
  d = d;
  about = about words held (checking netlist dump certificate) netlist dump ((parts.Certificate, certificate) ∷ []) (OnCertificate held certificate) asks refl c d is read;
  certificate = certificate;
  third = refl;
  facts = facts;
  clash = ends;
  certificate_held = (bytes, there, valid);
  is_text = refl;
  matched = λ v runs matches. sound_facts c d bytes facts ends valid.1 v runs matches;
}

check_answer : (words : List (List ℕ)) (held : Held) (text : List ℕ) (status : Status) → IsCheck words → Answer words held text status → IsResult status → IsSoundCheck words text held
check_answer words held text status (netlist, dump, certificate, asks) answer result =
    let (c, d, is, read, on) = result_on held netlist dump (OnCertificate held certificate) text status result (answer_to words held (checking netlist dump certificate) text status asks answer) in
    sound_check words held netlist dump certificate c d text status asks is read on result

three_files : (c : Circuit) (d : Recording) (held : Held) (netlist dump certificate : List ℕ) → IsNetlistOf held netlist c → IsDumpOf held dump c d → (facts : List Fact) × (ends : Option Cell) × IsCertificateOf held certificate c d facts ends
    → All (IsAcceptedOn c d held) (files_of (checking netlist dump certificate))
three_files c d held netlist dump certificate is read valid =
    All-cons (IsAcceptedOn c d held) (parts.Netlist, netlist) ((parts.Dump, dump) ∷ (parts.Certificate, certificate) ∷ []) is
    (All-cons (IsAcceptedOn c d held) (parts.Dump, dump) ((parts.Certificate, certificate) ∷ []) read (All-cons (IsAcceptedOn c d held) (parts.Certificate, certificate) [] valid (All-nil (IsAcceptedOn c d held))))

-- what is certified is accepted
pub certified_is_accepted : CertifiedIsAccepted
certified_is_accepted held netlist dump certificate text status answer result there short =
    let (c, d, is, read, on) = result_on held netlist dump OnCertify text status result answer in
    let (facts, ends, valid) = valid_text c d read.0 text status (is_circuit is.0 c is.2) read.2.1 on in
    (c, d, three_files c d held netlist dump certificate is read (facts, ends, (text, there, (short, valid))), tt)

-- ---- what a reply says

result_plain : (status : Status) → IsResult status → IsPlain status
result_plain statuses.Done result = tt
result_plain statuses.Contradiction result = tt
result_plain statuses.Words result = absurd result
result_plain statuses.Netlist result = absurd result
result_plain statuses.Dump result = absurd result
result_plain statuses.ReadFault result = absurd result
result_plain statuses.WriteFault result = absurd result
result_plain statuses.NoMemory result = absurd result
result_plain statuses.Certificate result = absurd result

module _ (words : List (List ℕ)) (reply : Reply) where
  pub sound_reply : (told : Option Held) → IsRestore words → ReplyAnswer words told reply → status_of reply ≡ statuses.Done → IfSome told (IsSoundTable words (text_of words reply))
  sound_reply None asks answer e = tt
  sound_reply (Some held) asks answer e = (sound_answer words held (text_of words reply) (status_of reply) asks (answer held (inl refl) (subst IsPlain (sym e) tt)) e).0

  pub again_reply : (told : Option Held) → IsRestore words → ReplyAnswer words told reply → status_of reply ≡ statuses.Done → IfSome told (IsDumpAgain words (text_of words reply))
  again_reply None asks answer e = tt
  again_reply (Some held) asks answer e = (sound_answer words held (text_of words reply) (status_of reply) asks (answer held (inl refl) (subst IsPlain (sym e) tt)) e).1

  pub clash_reply : (told : Option Held) → ReplyAnswer words told reply → status_of reply ≡ statuses.Contradiction → IfSome told (NoneMatches words)
  clash_reply None answer e = tt
  clash_reply (Some held) answer e = clash_answer words held (text_of words reply) (status_of reply) (answer held (inl refl) (subst IsPlain (sym e) tt)) e

  pub valid_reply : (told : Option Held) → IsCertify words → ReplyAnswer words told reply → IsResult (status_of reply) → IfSome told (IsValidCertificate words (text_of words reply))
  valid_reply None asks answer result = tt
  valid_reply (Some held) asks answer result = valid_answer words held (text_of words reply) (status_of reply) asks (answer held (inl refl) (result_plain (status_of reply) result)) result

  pub check_reply : (told : Option Held) → IsCheck words → ReplyAnswer words told reply → IsResult (status_of reply) → IfSome told (IsSoundCheck words (text_of words reply))
  check_reply None asks answer result = tt
  check_reply (Some held) asks answer result = check_answer words held (text_of words reply) (status_of reply) asks (answer held (inl refl) (result_plain (status_of reply) result)) result

  pub completes : (told : Option Held) → ReplyAnswer words told reply → (held : Held) (request : Request) → TellsEnough words told held → Asks words request → IsAccepted held request → IsPlain (status_of reply) → IsCompleted request (status_of reply)
  completes told answer held request enough asks accepted plain = accepted_is_completed words held request asks accepted (text_of words reply) (status_of reply) (answer held enough plain)
