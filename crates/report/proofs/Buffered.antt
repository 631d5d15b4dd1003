-- Texts that are put into bytes in turn.
use Rattle.std.proofs.Common.{◌≡◌, ℕ, ◌≤◌, List, [], ◌∷◌, ◌++◌, map, Option, Result, Ok, Err, length, take, refl, sym, ap, subst, ◌∙◌, append_assoc}
use Rattle.std.specs.List.{flat_map}
use Rattle.std.proofs.lemmas.List.{append-nil}
use Rattle.sr_model.specs.declared.cells.Cell.{Cell}
use Rattle.sr_outside.specs.declared.write.WriteFault.{WriteFault}
use Rattle.sr_text.specs.Lines.{with_line_feed}
use Rattle.plain_close.specs.declared.log.Step.{Step}
use Rattle.certificates.specs.Logs.{fact_of, facts_of}
use Rattle.certificates.specs.Printed.{cert_text, fact_line, head_line, last_line}
use Rattle.report.specs.Buffers.{Puts, answered}
use Rattle.report.specs.Writes.{Writes}
use Rattle.report.proofs.InTurn.{writes_both, writes_fault, writes_whole, wrote_none, wrote_whole}

module _ {K : Type 0} (written : K → Option (List ℕ)) (room : K → Option ℕ) (faults : K → ℕ) where
  -- nothing was written yet, and the text stands in front of the bytes
  pub puts_front : (now : K) (end : ℕ) (bytes text : List ℕ) → end ≤ length bytes → take end bytes ≡ text → Puts written room faults now now (Ok end) bytes text
  puts_front now end bytes text within is = record {
    sent = [];
    rest = text;
    whole = refl;
    writes = writes_whole written room faults now now tt [] (wrote_none written room faults now);
    left = (within, is);
  }

  -- the text was to be written, and a front of it was
  pub puts_unwritten : (old new : K) (one : Result (Unit {0}) WriteFault) (answer : Result ℕ WriteFault) (fault own : WriteFault) (bytes text : List ℕ) → one ≡ Err fault → answer ≡ Err own → Writes written room faults old new one text
      → Puts written room faults old new answer bytes text
  puts_unwritten old new one answer fault own bytes text one_is is writes =
      subst (λ r. Puts written room faults old new r bytes text) (sym is)
      (let none : Puts written room faults old new (Err own) bytes text = record {
        sent = text;
        rest = [];
        whole = sym (append-nil text);
        writes = writes_fault written room faults old old new one (Err own) fault own [] text [] text one_is refl (sym (append-nil text)) (wrote_none written room faults old) writes;
        left = tt;
      } in none)

  -- what was left of a text was written, or was not, or in part
  pub puts_then : (old mid new : K) (end : ℕ) (answer : Result ℕ WriteFault) (bytes text : List ℕ) → Puts written room faults old mid (Ok end) bytes text → Puts written room faults mid new answer bytes (take end bytes)
      → Puts written room faults old new answer bytes text
  puts_then old mid new end answer bytes text first second = record {
    sent = first.sent ++ second.sent;
    rest = second.rest;
    whole = first.whole ∙ ap (λ xs. first.sent ++ xs) (sym first.left.1 ∙ second.whole) ∙ sym (append_assoc first.sent second.sent second.rest);
    writes = writes_both written room faults old mid new (answered answer) first.sent second.sent (wrote_whole written room faults old mid tt first.sent first.writes) second.writes;
    left = second.left;
  }

  -- more was put behind it
  pub puts_more : (old new : K) (end next : ℕ) (bytes others text more : List ℕ) → Puts written room faults old new (Ok end) bytes text → next ≤ length others → take next others ≡ take end bytes ++ more
      → Puts written room faults old new (Ok next) others (text ++ more)
  puts_more old new end next bytes others text more p within is = record {
    sent = p.sent;
    rest = p.rest ++ more;
    whole = ap (λ xs. xs ++ more) p.whole ∙ append_assoc p.sent p.rest more;
    writes = p.writes;
    left = (within, is ∙ ap (λ xs. xs ++ more) p.left.1);
  }

  -- a fault with a text is one with that text and more behind it
  pub puts_fault : (old new : K) (fault : WriteFault) (bytes others text more whole : List ℕ) → whole ≡ text ++ more → Puts written room faults old new (Err fault) bytes text → Puts written room faults old new (Err fault) others whole
  puts_fault old new fault bytes others text more whole is p = record {
    sent = p.sent;
    rest = p.rest ++ more;
    whole = is ∙ ap (λ xs. xs ++ more) p.whole ∙ append_assoc p.sent p.rest more;
    writes = p.writes;
    left = tt;
  }

  -- what is left of a text was written at last
  pub puts_written : (old mid new : K) (end : ℕ) (answer : Result (Unit {0}) WriteFault) (bytes text : List ℕ) → Puts written room faults old mid (Ok end) bytes text → Writes written room faults mid new answer (take end bytes)
      → Writes written room faults old new answer text
  puts_written old mid new end answer bytes text p writes =
      subst (Writes written room faults old new answer) (sym (p.whole ∙ ap (λ xs. p.sent ++ xs) (sym p.left.1)))
      (writes_both written room faults old mid new answer p.sent (take end bytes) (wrote_whole written room faults old mid tt p.sent p.writes) writes)

  -- or a front of it was not
  pub puts_failed : (old new : K) (answer : Result (Unit {0}) WriteFault) (fault own : WriteFault) (bytes text more whole : List ℕ) → answer ≡ Err own → whole ≡ text ++ more → Puts written room faults old new (Err fault) bytes text
      → Writes written room faults old new answer whole
  puts_failed old new answer fault own bytes text more whole is parts p =
      writes_fault written room faults old old new (Err fault) answer fault own [] p.sent (p.rest ++ more) whole refl is (parts ∙ ap (λ xs. xs ++ more) p.whole ∙ append_assoc p.sent p.rest more) (wrote_none written room faults old) p.writes

-- ---- the text of a log

abbrev pub step_text : List (List ℕ) → Step → List ℕ
step_text names step = with_line_feed (fact_line names (fact_of step))

lines_of : (names : List (List ℕ)) (steps : List Step) (last : List ℕ) → flat_map with_line_feed (map (fact_line names) (facts_of steps) ++ last ∷ []) ≡ flat_map (step_text names) steps ++ with_line_feed last
lines_of names [] last = append-nil (with_line_feed last)
lines_of names (step ∷ steps) last = ap (λ xs. step_text names step ++ xs) (lines_of names steps last) ∙ sym (append_assoc (step_text names step) (flat_map (step_text names) steps) (with_line_feed last))

-- the first line and those of the steps, and behind them the last one
pub log_parts : (names : List (List ℕ)) (steps : List Step) (clash : Option Cell) → cert_text names (facts_of steps) clash ≡ (with_line_feed head_line ++ flat_map (step_text names) steps) ++ with_line_feed (last_line names clash)
log_parts names steps clash =
    ap (λ xs. with_line_feed head_line ++ xs) (lines_of names steps (last_line names clash)) ∙ sym (append_assoc (with_line_feed head_line) (flat_map (step_text names) steps) (with_line_feed (last_line names clash)))
