use Rattle.std.proofs.Common.{List, ℕ, ap, arith, refl, inl, inr, sym, subst}
use Rattle.std.specs.Prelude.{map, Ok, Err}
use Rattle.std.specs.String.{string_bytes}
use Rattle.std.proofs.lemmas.List.{length-map}
use Rattle.restore_program.specs.Reads.{Reads}
use Rattle.restore_program.specs.Requests.{Asks, Request, certification, checking, loading, restoration, selection, simulation, printing}
use Rattle.restore_program.specs.Words.{Simulates}
use Rattle.restore_program.proofs.Answering.{answers_asked, answers_refused, refused_as, refused_ready, told_or_not, words_refused}
use Rattle.restore_program.proofs.AskedLoad.{load_size}
use Rattle.restore_program.proofs.AskedRestore.{restore_files, restores_seen}
use Rattle.restore_program.proofs.AskedSelection.{select_cycles, select_file, selects_seen}
use Rattle.restore_program.proofs.AskedSimulation.{cycles_counted, has_list, listed, same_netlist, trace_within, traces_list}
use Rattle.restore_program.proofs.CommandWords.{asked_certify, asked_check, asked_print, certify_files, check_files, print_file}
use Rattle.restore_program.proofs.Inputless.{needs_files}
use Rattle.restore_program.proofs.OneRequest.{asked_refused}
use Rattle.restore_program.proofs.Reading.{none_read, read_among}
use Rattle.restore_program.proofs.top.reply_to.Goals as goal

-- ---- restore

pub bounds-words-1 : goal.bounds-words-1
bounds-words-1 g c =
    let is = (c.in-Ok-Restore.ensures.restore c.in-Ok-Restore.all).0 (ap Ok c.in-Ok-Restore.field-0-is) in
    let few = restore_files string_bytes c.args.words.now is.0 is.1 c.in-Ok-Restore.all is.2 in omega (arith, few)

pub bounds-words-2 : goal.bounds-words-2
bounds-words-2 g c =
    let is = (c.in-Ok-Restore.ensures.restore c.in-Ok-Restore.all).0 (ap Ok c.in-Ok-Restore.field-0-is) in restore_files string_bytes c.args.words.now is.0 is.1 c.in-Ok-Restore.all is.2

pub returns-in-Ok-Restore : goal.returns-in-Ok-Restore
returns-in-Ok-Restore g c =
    let words : List (List ℕ) = map string_bytes c.args.words.now in
    let is = (c.in-Ok-Restore.ensures.restore c.in-Ok-Restore.all).0 (ap Ok c.in-Ok-Restore.field-0-is) in
    let request : Request = restoration c.as_str.result.now c.as_str-in-Ok-Restore.result.now c.in-Ok-Restore.all in
    let asked : Asks words request =
    restores_seen string_bytes c.args.words.now is.0 is.1 c.in-Ok-Restore.all is.2 c.index-words-1.result c.index-words-2.result c.as_str.result.now c.as_str-in-Ok-Restore.result.now c.index-words-1.is c.index-words-2.is
    c.as_str.ensures.value c.as_str-in-Ok-Restore.ensures.value in
    record {
      answer = answers_asked (g.I.Inputs.held c.args.inputs.now) words request c.restore_reply.result asked (c.restore_reply.ensures.answer words) (λ needs. absurd (needs_files words request _ _ refl asked needs));
      ready = c.restore_reply.ensures.ready words;
      of_words = λ about. absurd (c.restore_reply.ensures.not_of_words about);
      refused = λ refused. absurd (asked_refused words request asked refused);
      untouched = λ needs. absurd (needs_files words request _ _ refl asked needs);
      reads = read_among _ _ _ _ _ _ _ _ (λ file come. (request, asked, come)) c.restore_reply.ensures.reads;
    }

-- ---- select

pub bounds-words-1-in-Ok-Select : goal.bounds-words-1-in-Ok-Select
bounds-words-1-in-Ok-Select g c =
    let is = (c.in-Ok-Select.ensures.select c.in-Ok-Select.width c.in-Ok-Select.cycles c.in-Ok-Select.seed).0 (ap Ok c.in-Ok-Select.field-0-is) in
    select_file string_bytes c.args.words.now is.0 c.in-Ok-Select.width c.in-Ok-Select.cycles c.in-Ok-Select.seed is.1

pub select_reply-requires-after_bounds : goal.select_reply-requires-after_bounds
select_reply-requires-after_bounds g c κs within =
    let is = (c.in-Ok-Select.ensures.select c.in-Ok-Select.width c.in-Ok-Select.cycles c.in-Ok-Select.seed).0 (ap Ok c.in-Ok-Select.field-0-is) in
    select_cycles string_bytes c.args.words.now is.0 c.in-Ok-Select.width c.in-Ok-Select.cycles c.in-Ok-Select.seed is.1

pub returns-in-Ok-Select : goal.returns-in-Ok-Select
returns-in-Ok-Select g c =
    let words : List (List ℕ) = map string_bytes c.args.words.now in
    let is = (c.in-Ok-Select.ensures.select c.in-Ok-Select.width c.in-Ok-Select.cycles c.in-Ok-Select.seed).0 (ap Ok c.in-Ok-Select.field-0-is) in
    let request : Request = selection c.as_str-in-Ok-Select.result.now c.in-Ok-Select.width c.in-Ok-Select.cycles c.in-Ok-Select.seed in
    let asked : Asks words request =
    selects_seen string_bytes c.args.words.now is.0 c.in-Ok-Select.width c.in-Ok-Select.cycles c.in-Ok-Select.seed is.1 c.index-words-1-in-Ok-Select.result c.as_str-in-Ok-Select.result.now c.index-words-1-in-Ok-Select.is c.as_str-in-Ok-Select.ensures.value in
    record {
      answer = answers_asked (g.I.Inputs.held c.args.inputs.now) words request c.select_reply.result asked (c.select_reply.ensures.answer words) (λ needs. absurd (needs_files words request _ _ refl asked needs));
      ready = c.select_reply.ensures.ready words;
      of_words = λ _. inr (inl (is.0, c.in-Ok-Select.width, c.in-Ok-Select.cycles, c.in-Ok-Select.seed, is.1));
      refused = λ refused. absurd (asked_refused words request asked refused);
      untouched = λ needs. absurd (needs_files words request _ _ refl asked needs);
      reads = read_among _ _ _ _ _ _ _ _ (λ file come. (request, asked, come)) c.select_reply.ensures.reads;
    }

-- ---- simulate

pub bounds-words-1-in-Ok-Simulate : goal.bounds-words-1-in-Ok-Simulate
bounds-words-1-in-Ok-Simulate g c =
    let is = (c.in-Ok-Simulate.ensures.simulate c.in-Ok-Simulate.cycles c.in-Ok-Simulate.seed c.in-Ok-Simulate.trace).0 (ap Ok c.in-Ok-Simulate.field-0-is) in
    omega (arith, is.1.shaped.files, length-map c.args.words.now string_bytes)

pub bounds-words-trace : goal.bounds-words-trace
bounds-words-trace g c =
    let is = (c.in-Ok-Simulate.ensures.simulate c.in-Ok-Simulate.cycles c.in-Ok-Simulate.seed c.in-Ok-Simulate.trace).0 (ap Ok c.in-Ok-Simulate.field-0-is) in
    trace_within string_bytes c.args.words.now is.0 c.in-Ok-Simulate.cycles c.in-Ok-Simulate.seed c.in-Ok-Simulate.trace is.1

pub trace_list-requires : goal.trace_list-requires
trace_list-requires g c =
    let is = (c.in-Ok-Simulate.ensures.simulate c.in-Ok-Simulate.cycles c.in-Ok-Simulate.seed c.in-Ok-Simulate.trace).0 (ap Ok c.in-Ok-Simulate.field-0-is) in
    has_list string_bytes c.args.words.now is.0 c.in-Ok-Simulate.cycles c.in-Ok-Simulate.seed c.in-Ok-Simulate.trace is.1 c.index-words-trace.result c.as_str-in-Ok-Simulate-2.result.now c.index-words-trace.is c.as_str-in-Ok-Simulate-2.ensures.value

pub simulate_reply-requires : goal.simulate_reply-requires
simulate_reply-requires g c =
    let is = (c.in-Ok-Simulate.ensures.simulate c.in-Ok-Simulate.cycles c.in-Ok-Simulate.seed c.in-Ok-Simulate.trace).0 (ap Ok c.in-Ok-Simulate.field-0-is) in
    cycles_counted string_bytes c.args.words.now is.0 c.in-Ok-Simulate.cycles c.in-Ok-Simulate.seed c.in-Ok-Simulate.trace is.1

pub returns-in-Ok-Simulate : goal.returns-in-Ok-Simulate
returns-in-Ok-Simulate g c =
    let words : List (List ℕ) = map string_bytes c.args.words.now in
    let is = (c.in-Ok-Simulate.ensures.simulate c.in-Ok-Simulate.cycles c.in-Ok-Simulate.seed c.in-Ok-Simulate.trace).0 (ap Ok c.in-Ok-Simulate.field-0-is) in
    let run : Simulates words c.as_str-in-Ok-Simulate.result.now c.in-Ok-Simulate.cycles c.in-Ok-Simulate.seed c.in-Ok-Simulate.trace =
    same_netlist string_bytes c.args.words.now is.0 c.in-Ok-Simulate.cycles c.in-Ok-Simulate.seed c.in-Ok-Simulate.trace is.1 c.index-words-1-in-Ok-Simulate.result c.as_str-in-Ok-Simulate.result.now (omega (arith, is.1.shaped.files, length-map c.args.words.now string_bytes)) c.index-words-1-in-Ok-Simulate.is c.as_str-in-Ok-Simulate.ensures.value in
    let request : Request = simulation c.as_str-in-Ok-Simulate.result.now c.in-Ok-Simulate.cycles c.in-Ok-Simulate.seed c.trace_list.result.now in
    let asked : Asks words request =
    traces_list string_bytes c.args.words.now c.as_str-in-Ok-Simulate.result.now c.in-Ok-Simulate.cycles c.in-Ok-Simulate.seed c.in-Ok-Simulate.trace run c.index-words-trace.result c.as_str-in-Ok-Simulate-2.result.now c.index-words-trace.is c.as_str-in-Ok-Simulate-2.ensures.value c.trace_list.result.now c.trace_list.ensures in
    let there = listed string_bytes c.args.words.now c.as_str-in-Ok-Simulate.result.now c.in-Ok-Simulate.cycles c.in-Ok-Simulate.seed c.in-Ok-Simulate.trace run c.index-words-trace.result c.as_str-in-Ok-Simulate-2.result.now c.index-words-trace.is c.as_str-in-Ok-Simulate-2.ensures.value c.trace_list.result.now c.trace_list.ensures in
    record {
      answer = answers_asked (g.I.Inputs.held c.args.inputs.now) words request c.simulate_reply.result asked (c.simulate_reply.ensures.answer words there) (λ needs. absurd (needs_files words request _ _ refl asked needs));
      ready = c.simulate_reply.ensures.ready words there;
      of_words = λ _. inr (inr (is.0, c.in-Ok-Simulate.cycles, c.in-Ok-Simulate.seed, c.in-Ok-Simulate.trace, is.1));
      refused = λ refused. absurd (asked_refused words request asked refused);
      untouched = λ needs. absurd (needs_files words request _ _ refl asked needs);
      reads = read_among _ _ _ _ _ _ _ _ (λ file come. (request, asked, come)) c.simulate_reply.ensures.reads;
    }

-- ---- print

pub bounds-words-1-in-Ok-Print : goal.bounds-words-1-in-Ok-Print
bounds-words-1-in-Ok-Print g c = print_file string_bytes c.args.words.now (c.in-Ok-Print.ensures.print.0 (ap Ok c.in-Ok-Print.field-0-is))

pub returns-in-Ok-Print : goal.returns-in-Ok-Print
returns-in-Ok-Print g c =
    let words : List (List ℕ) = map string_bytes c.args.words.now in
    let request : Request = printing c.as_str-in-Ok-Print.result.now in
    let asked : Asks words request =
    asked_print string_bytes c.args.words.now (c.in-Ok-Print.ensures.print.0 (ap Ok c.in-Ok-Print.field-0-is)) c.index-words-1-in-Ok-Print.result c.as_str-in-Ok-Print.result.now c.index-words-1-in-Ok-Print.is c.as_str-in-Ok-Print.ensures.value in
    record {
      answer = answers_asked (g.I.Inputs.held c.args.inputs.now) words request c.print_reply.result asked (c.print_reply.ensures.answer words) (λ needs. absurd (needs_files words request _ _ refl asked needs));
      ready = c.print_reply.ensures.ready words;
      of_words = λ about. absurd (c.print_reply.ensures.not_of_words about);
      refused = λ refused. absurd (asked_refused words request asked refused);
      untouched = λ needs. absurd (needs_files words request _ _ refl asked needs);
      reads = read_among _ _ _ _ _ _ _ _ (λ file come. (request, asked, come)) c.print_reply.ensures.reads;
    }

-- ---- load

pub load_reply-requires-after_bounds : goal.load_reply-requires-after_bounds
load_reply-requires-after_bounds g c κs within =
    load_size (map string_bytes c.args.words.now) c.in-Ok-Load.number c.in-Ok-Load.signals ((c.in-Ok-Load.ensures.load c.in-Ok-Load.number c.in-Ok-Load.signals).0 (ap Ok c.in-Ok-Load.field-0-is))

pub returns-in-Ok-Load-clause-answer : goal.returns-in-Ok-Load-clause-answer
returns-in-Ok-Load-clause-answer g c =
    answers_asked (g.I.Inputs.held c.args.inputs.now) (map string_bytes c.args.words.now) (loading c.in-Ok-Load.number c.in-Ok-Load.signals) c.load_reply.result
    ((c.in-Ok-Load.ensures.load c.in-Ok-Load.number c.in-Ok-Load.signals).0 (ap Ok c.in-Ok-Load.field-0-is))
    (told_or_not (g.I.Inputs.held c.args.inputs.now) _ (λ held. c.load_reply.ensures.answer (map string_bytes c.args.words.now)))
    (λ _ held. c.load_reply.ensures.answer (map string_bytes c.args.words.now))

pub returns-in-Ok-Load-clause-ready : goal.returns-in-Ok-Load-clause-ready
returns-in-Ok-Load-clause-ready g c = c.load_reply.ensures.ready (map string_bytes c.args.words.now)

pub returns-in-Ok-Load-clause-refused : goal.returns-in-Ok-Load-clause-refused
returns-in-Ok-Load-clause-refused g c =
    λ refused. absurd (asked_refused (map string_bytes c.args.words.now) (loading c.in-Ok-Load.number c.in-Ok-Load.signals) ((c.in-Ok-Load.ensures.load c.in-Ok-Load.number c.in-Ok-Load.signals).0 (ap Ok c.in-Ok-Load.field-0-is)) refused)

pub returns-in-Ok-Load-clause-reads : goal.returns-in-Ok-Load-clause-reads
returns-in-Ok-Load-clause-reads g c = subst (Reads g.I.Inputs.held g.I.Inputs.shaky g.I.Inputs.faults _ _ _) (sym c.load_reply.ensures.no_fault) (none_read _ _ _ _ _)

-- ---- certify

pub bounds-words-1-in-Ok-Certify : goal.bounds-words-1-in-Ok-Certify
bounds-words-1-in-Ok-Certify g c = let few = certify_files string_bytes c.args.words.now (c.in-Ok-Certify.ensures.certify.0 (ap Ok c.in-Ok-Certify.field-0-is)) in omega (arith, few)

pub bounds-words-2-in-Ok-Certify : goal.bounds-words-2-in-Ok-Certify
bounds-words-2-in-Ok-Certify g c = certify_files string_bytes c.args.words.now (c.in-Ok-Certify.ensures.certify.0 (ap Ok c.in-Ok-Certify.field-0-is))

pub returns-in-Ok-Certify : goal.returns-in-Ok-Certify
returns-in-Ok-Certify g c =
    let words : List (List ℕ) = map string_bytes c.args.words.now in
    let request : Request = certification c.as_str-in-Ok-Certify.result.now c.as_str-in-Ok-Certify-2.result.now in
    let asked : Asks words request =
    asked_certify string_bytes c.args.words.now (c.in-Ok-Certify.ensures.certify.0 (ap Ok c.in-Ok-Certify.field-0-is)) c.index-words-1-in-Ok-Certify.result c.index-words-2-in-Ok-Certify.result c.as_str-in-Ok-Certify.result.now
    c.as_str-in-Ok-Certify-2.result.now c.index-words-1-in-Ok-Certify.is c.index-words-2-in-Ok-Certify.is c.as_str-in-Ok-Certify.ensures.value c.as_str-in-Ok-Certify-2.ensures.value in
    record {
      answer = answers_asked (g.I.Inputs.held c.args.inputs.now) words request c.certify_reply.result asked (c.certify_reply.ensures.answer words) (λ needs. absurd (needs_files words request _ _ refl asked needs));
      ready = c.certify_reply.ensures.ready words;
      of_words = λ about. absurd (c.certify_reply.ensures.not_of_words about);
      refused = λ refused. absurd (asked_refused words request asked refused);
      untouched = λ needs. absurd (needs_files words request _ _ refl asked needs);
      reads = read_among _ _ _ _ _ _ _ _ (λ file come. (request, asked, come)) c.certify_reply.ensures.reads;
    }

-- ---- check

pub bounds-words-1-in-Ok-Check : goal.bounds-words-1-in-Ok-Check
bounds-words-1-in-Ok-Check g c = let few = check_files string_bytes c.args.words.now (c.in-Ok-Check.ensures.check.0 (ap Ok c.in-Ok-Check.field-0-is)) in omega (arith, few)

pub bounds-words-2-in-Ok-Check : goal.bounds-words-2-in-Ok-Check
bounds-words-2-in-Ok-Check g c = let few = check_files string_bytes c.args.words.now (c.in-Ok-Check.ensures.check.0 (ap Ok c.in-Ok-Check.field-0-is)) in omega (arith, few)

pub bounds-words-3 : goal.bounds-words-3
bounds-words-3 g c = check_files string_bytes c.args.words.now (c.in-Ok-Check.ensures.check.0 (ap Ok c.in-Ok-Check.field-0-is))

pub returns-in-Ok-Check : goal.returns-in-Ok-Check
returns-in-Ok-Check g c =
    let words : List (List ℕ) = map string_bytes c.args.words.now in
    let request : Request = checking c.as_str-in-Ok-Check.result.now c.as_str-in-Ok-Check-2.result.now c.as_str-in-Ok-Check-3.result.now in
    let asked : Asks words request =
    asked_check string_bytes c.args.words.now (c.in-Ok-Check.ensures.check.0 (ap Ok c.in-Ok-Check.field-0-is)) c.index-words-1-in-Ok-Check.result c.index-words-2-in-Ok-Check.result c.index-words-3.result
    c.as_str-in-Ok-Check.result.now c.as_str-in-Ok-Check-2.result.now c.as_str-in-Ok-Check-3.result.now c.index-words-1-in-Ok-Check.is c.index-words-2-in-Ok-Check.is c.index-words-3.is
    c.as_str-in-Ok-Check.ensures.value c.as_str-in-Ok-Check-2.ensures.value c.as_str-in-Ok-Check-3.ensures.value in
    record {
      answer = answers_asked (g.I.Inputs.held c.args.inputs.now) words request c.check_reply.result asked (c.check_reply.ensures.answer words) (λ needs. absurd (needs_files words request _ _ refl asked needs));
      ready = c.check_reply.ensures.ready words;
      of_words = λ about. absurd (c.check_reply.ensures.not_of_words about);
      refused = λ refused. absurd (asked_refused words request asked refused);
      untouched = λ needs. absurd (needs_files words request _ _ refl asked needs);
      reads = read_among _ _ _ _ _ _ _ _ (λ file come. (request, asked, come)) c.check_reply.ensures.reads;
    }

-- ---- words that are refused

pub returns-in-Err-clause-answer : goal.returns-in-Err-clause-answer
returns-in-Err-clause-answer g c =
    answers_refused (g.I.Inputs.held c.args.inputs.now) (map string_bytes c.args.words.now) c.in-Err.refusal
    (refused_as (map string_bytes c.args.words.now) c.in-Err.refusal (Err c.in-Err.refusal) refl c.in-Err.ensures.usage.0 (λ place. (c.in-Err.ensures.number place).0))

pub returns-in-Err-clause-ready : goal.returns-in-Err-clause-ready
returns-in-Err-clause-ready g c =
    refused_ready (map string_bytes c.args.words.now) c.in-Err.refusal
    (refused_as (map string_bytes c.args.words.now) c.in-Err.refusal (Err c.in-Err.refusal) refl c.in-Err.ensures.usage.0 (λ place. (c.in-Err.ensures.number place).0))

pub returns-in-Err-clause-of_words : goal.returns-in-Err-clause-of_words
returns-in-Err-clause-of_words g c =
    λ _. inl (words_refused (map string_bytes c.args.words.now) c.in-Err.refusal
    (refused_as (map string_bytes c.args.words.now) c.in-Err.refusal (Err c.in-Err.refusal) refl c.in-Err.ensures.usage.0 (λ place. (c.in-Err.ensures.number place).0)))

pub returns-in-Err-clause-reads : goal.returns-in-Err-clause-reads
returns-in-Err-clause-reads g c = none_read _ _ _ _ _
