-- Each text is a valid certificate or is refused.
use Rattle.std.proofs.Common.{◌≡◌, ◌≢◌, ◌⊎◌, ℕ, List, [], ◌∷◌, ◌++◌, Option, Some, None, inl, inr, refl, sym, subst, ◌∙◌, append_assoc}
use Rattle.std.proofs.lemmas.List.{append-nil}
use Rattle.std.proofs.lemmas.Slice.Zip.{all_zipped_more}
use Rattle.sr_model.specs.declared.cells.Cell.{Cell}
use Rattle.sr_model.specs.Closure.{passing}
use Rattle.sr_model.specs.Dump.{dump_has}
use Rattle.netlist.specs.Circuit.{Circuit, IsCircuit, unrolled_over}
use Rattle.sr_text.specs.Lines.{numbered, past_end}
use Rattle.sr_text.proofs.lemmas.FirstFaults.{Line}
use Rattle.dump_reader.specs.Grammar.{FailsFirst}
use Rattle.dump_reader.specs.Recording.{Recording}
use Rattle.certificates.specs.declared.claim.Fact.{Fact}
use Rattle.certificates.specs.declared.claim.Claim.{Claim}
use Rattle.certificates.specs.declared.claim.Claim.TheVariants.{Forced, End, Contradiction}
use Rattle.certificates.specs.declared.refusal.CertRefusal.{CertRefusal}
use Rattle.certificates.specs.declared.refusal.CertRefusal.TheVariants.{CertHead, CertSyntax, CertCell, NotForced, NoMemory}
use Rattle.certificates.specs.Forms.{IsHead}
use Rattle.certificates.specs.Grammar.{States}
use Rattle.certificates.specs.Laws.{IsValidOrRefused}
use Rattle.certificates.specs.Refusal.{IsRefusal, behind_last, has_no_form, no_last}
use Rattle.certificates.specs.Tokens.{tokens_of}
use Rattle.certificates.specs.Validity.{AreComplete, HasHead, Holds, IsValid, StateFacts, known_by, last_claim}
use Rattle.certificates.proofs.DecidedClaims.{holds_or_not}
use Rattle.certificates.proofs.DecidedLines.{claim_or_none, form_or_none, head_or_not}
use Rattle.certificates.proofs.Holding.{forced-push}

abbrev Outcome : Circuit → Recording → List ℕ → Type 0
Outcome c d text = ((facts : List Fact) × (clash : Option Cell) × IsValid c d text facts clash) ⊎ ((e : CertRefusal) × IsRefusal c d text e × (e ≢ NoMemory))

module _ (c : Circuit) (circuit : IsCircuit c) (d : Recording) (text : List ℕ) (lines : List Line) (head : HasHead text lines) where
  -- behind these lines, which state these facts
  module _ (before : List Line) (facts : List Fact) (stated : StateFacts c d before facts) where
    complete : (last : Line) (clash : Option Cell) → States c d.cycles last.1 (last_claim clash) → Holds (unrolled_over c d.cycles) (known_by d facts) (last_claim clash) → AreComplete c d (before ++ last ∷ []) facts clash
    complete last clash states holds = record { before = before; last = last; whole = refl; facts_stated = stated; last_stated = states; holds = holds }

    ended : (last : Line) (after : List Line) (clash : Option Cell) → lines ≡ before ++ last ∷ after → States c d.cycles last.1 (last_claim clash)
        → Holds (unrolled_over c d.cycles) (known_by d facts) (last_claim clash) → Outcome c d text
    ended last [] clash whole states holds = inl (facts, clash, record { lines = lines; head = head; complete = subst (λ (ls : List Line). AreComplete c d ls facts clash) (sym whole) (complete last clash states holds) })
    ended last (next ∷ after) clash whole states holds = inr (
      CertSyntax next.0,
      (
        lines,
        head,
        behind_last (record {
          before = before ++ last ∷ [];
          bad = next.1;
          after = after;
          whole = whole ∙ sym (append_assoc before (last ∷ []) (next ∷ after));
          said = facts;
          say = (clash, complete last clash states holds);
          fault = tt;
        }),
      ),
      λ e. cc,
    )

  -- the lines that are left
  walk : (left before : List Line) (facts : List Fact) → lines ≡ before ++ left → StateFacts c d before facts → Outcome c d text
  walk [] before facts whole stated =
      inr (CertSyntax (past_end text), (lines, head, no_last facts (subst (λ (ls : List Line). StateFacts c d ls facts) (sym (whole ∙ append-nil before)) stated) refl), λ e. cc)
  walk (line ∷ left) before facts whole stated =
      elim (form_or_none (tokens_of line.1)) [
        | inr none ↦ inr (
          CertSyntax line.0,
          (lines, head, has_no_form (record { before = before; bad = line.1; after = left; whole = whole; said = facts; say = stated; fault = λ form has. none (form, has) })),
          λ e. cc,
        )
        | inl (form, has) ↦ elim (claim_or_none c d.cycles circuit form) [
          | inr none ↦ inr (
            CertCell line.0,
            (
              lines,
              head,
              record { before = before; bad = line.1; after = left; whole = whole; said = facts; say = stated; fault = record { form = form; has_form = has; means_none = λ claim means. none (claim, means) } },
            ),
            λ e. cc,
          )
          | inl (claim, means) ↦ elim (holds_or_not (unrolled_over c d.cycles) (dump_has d.rows) facts claim) [
            | inr fails ↦ inr (
              NotForced line.0,
              (
                lines,
                head,
                record {
                  before = before;
                  bad = line.1;
                  after = left;
                  whole = whole;
                  said = facts;
                  say = stated;
                  fault = record { claim = claim; stated = record { form = form; has_form = has; means = means }; fails = fails };
                },
              ),
              λ e. cc,
            )
            | inl holds ↦ on (λ fact more. walk left (before ++ line ∷ []) (facts ++ fact ∷ []) (whole ∙ sym (append_assoc before (line ∷ []) left)) more) claim (record { form = form; has_form = has; means = means }) holds
          ]
        ]
      ]
    where
      on : ((fact : Fact) → StateFacts c d (before ++ line ∷ []) (facts ++ fact ∷ []) → Outcome c d text) → (claim : Claim) → States c d.cycles line.1 claim → Holds (unrolled_over c d.cycles) (known_by d facts) claim
          → Outcome c d text
      on later (Forced fact) states holds =
          later fact (record {
            each = all_zipped_more (λ (l : Line) (f : Fact). States c d.cycles l.1 (Forced f)) before facts line fact stated.each states;
            forced = forced-push (unrolled_over c d.cycles) (passing (dump_has d.rows)) [] facts fact stated.forced holds;
          })
      on later End states holds = ended before facts stated line left None whole states holds
      on later (Contradiction cell) states holds = ended before facts stated line left (Some cell) whole states holds

from_head : (c : Circuit) → IsCircuit c → (d : Recording) (text : List ℕ) (all : List Line) → numbered text ≡ all → Outcome c d text
from_head c circuit d text [] e = inr (CertHead (past_end text), subst (λ (ls : List Line). FailsFirst IsHead (past_end text) ls (past_end text)) (sym e) refl, λ r. cc)
from_head c circuit d text (first ∷ lines) e =
    elim (head_or_not first.1) [
      | inr other ↦ inr (CertHead first.0, subst (λ (ls : List Line). FailsFirst IsHead (past_end text) ls first.0) (sym e) (refl, other), λ r. cc)
      | inl is ↦ walk c circuit d text lines (record { head = first; whole = e; is_head = is }) lines [] [] refl (record { each = tt; forced = tt })
    ]

pub valid_or_refused : IsValidOrRefused
valid_or_refused c circuit d text = from_head c circuit d text (numbered text) refl
