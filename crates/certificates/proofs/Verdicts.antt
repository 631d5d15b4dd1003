-- What a certificate's lines come to: one verdict at most.
use Rattle.std.proofs.Common.{◌≡◌, ◌≢◌, ◌⊎◌, ℕ, List, [], ◌∷◌, ◌++◌, Option, Some, None, refl, sym, ap, subst, ◌∙◌, inl, inr, append_assoc}
use Rattle.std.specs.List.{AllZip}
use Rattle.std.proofs.lemmas.List.{append-nil}
use Rattle.sr_model.specs.declared.cells.Cell.{Cell}
use Rattle.sr_model.specs.Closure.{passing}
use Rattle.sr_model.specs.Dump.{dump_has}
use Rattle.netlist.specs.Circuit.{Circuit, IsCircuit, unrolled_over}
use Rattle.sr_text.specs.Lines.{numbered, past_end}
use Rattle.sr_text.proofs.lemmas.FirstFaults.{Line, same_cons}
use Rattle.dump_reader.specs.Grammar.{FailsFirst}
use Rattle.dump_reader.specs.Recording.{Recording}
use Rattle.certificates.specs.declared.claim.Fact.{Fact}
use Rattle.certificates.specs.declared.claim.Claim.{Claim}
use Rattle.certificates.specs.declared.claim.Claim.TheVariants.{Forced, End, Contradiction}
use Rattle.certificates.specs.declared.refusal.CertRefusal.{CertRefusal}
use Rattle.certificates.specs.declared.refusal.CertRefusal.TheVariants.{CertHead, CertSyntax, CertCell, NotForced, NoMemory}
use Rattle.certificates.specs.Forms.{IsHead}
use Rattle.certificates.specs.Grammar.{States, IsFormFault, IsCellFault}
use Rattle.certificates.specs.Laws.{IsRefusedOnce, IsValidOnce, ValidAreNotRefused}
use Rattle.certificates.specs.Refusal.{IsClaimFault, IsRefusal, IsSyntaxFault, has_no_form, behind_last, no_last}
use Rattle.certificates.specs.Validity.{AreComplete, AreForced, HasHead, Holds, IsValid, StateFacts, known_by, last_claim}
use Rattle.certificates.proofs.OneClaim.{means-again, one-claim}

data Verdict : Type 0 where
  Valid : List Fact → Option Cell → Verdict
  Refused : CertRefusal → Verdict

-- behind the last line no other is to stand
abbrev Ends : List Fact → Option Cell → List Line → Verdict → Type 0
Ends facts clash [] v = v ≡ Valid facts clash
Ends facts clash (next ∷ lines) v = v ≡ Refused (CertSyntax next.0)

module _ (c : Circuit) (d : Recording) (past : ℕ) where
  -- what comes behind a claim that holds, by what comes of further facts
  abbrev After : (List Fact → Type 0) → List Fact → List Line → Claim → Verdict → Type 0
  After Later facts lines (Forced fact) v = Later (facts ++ fact ∷ [])
  After Later facts lines End v = Ends facts None lines v
  After Later facts lines (Contradiction cell) v = Ends facts (Some cell) lines v

  -- what comes of a line behind these facts
  data OfLine (Later : List Fact → Type 0) (facts : List Fact) (line : Line) (lines : List Line) (v : Verdict) : Type 0 where
    no_form : IsFormFault line.1 → v ≡ Refused (CertSyntax line.0) → OfLine Later facts line lines v
    no_cell : IsCellFault c d.cycles line.1 → v ≡ Refused (CertCell line.0) → OfLine Later facts line lines v
    not_so : IsClaimFault c d facts line.1 → v ≡ Refused (NotForced line.0) → OfLine Later facts line lines v
    so : (claim : Claim) → States c d.cycles line.1 claim → Holds (unrolled_over c d.cycles) (known_by d facts) claim → After Later facts lines claim v → OfLine Later facts line lines v

  -- what comes of lines behind these facts
  abbrev Comes : List Line → Verdict → List Fact → Type 0
  Comes [] v facts = v ≡ Refused (CertSyntax past)
  Comes (line ∷ lines) v facts = OfLine (Comes lines v) facts line lines v

  ends-once : (facts : List Fact) (clash : Option Cell) (lines : List Line) (v w : Verdict) → Ends facts clash lines v → Ends facts clash lines w → v ≡ w
  ends-once facts clash [] v w h k = h ∙ sym k
  ends-once facts clash (next ∷ lines) v w h k = h ∙ sym k

  after-once : (LaterV LaterW : List Fact → Type 0) (v w : Verdict) → ((facts : List Fact) → LaterV facts → LaterW facts → v ≡ w)
      → (lines : List Line) (facts : List Fact) (claim : Claim) → After LaterV facts lines claim v → After LaterW facts lines claim w → v ≡ w
  after-once LaterV LaterW v w same lines facts (Forced fact) h k = same (facts ++ fact ∷ []) h k
  after-once LaterV LaterW v w same lines facts End h k = ends-once facts None lines v w h k
  after-once LaterV LaterW v w same lines facts (Contradiction cell) h k = ends-once facts (Some cell) lines v w h k

  module _ (circuit : IsCircuit c) where
    so-not : (facts : List Fact) (text : List ℕ) (claim : Claim) → States c d.cycles text claim → Holds (unrolled_over c d.cycles) (known_by d facts) claim → IsClaimFault c d facts text → ⊥
    so-not facts text claim states holds fault =
        fault.fails (subst (Holds (unrolled_over c d.cycles) (known_by d facts)) (one-claim c d.cycles circuit text claim fault.claim states fault.stated) holds)

    cell-not : (text : List ℕ) (claim : Claim) → States c d.cycles text claim → IsCellFault c d.cycles text → ⊥
    cell-not text claim states fault = fault.means_none claim (means-again c d.cycles circuit text fault.form claim fault.has_form states)

    once : (lines : List Line) (v w : Verdict) (facts : List Fact) → Comes lines v facts → Comes lines w facts → v ≡ w
    once [] v w facts h k = h ∙ sym k
    once (line ∷ lines) v w facts (no_form p e) (no_form q f) = e ∙ sym f
    once (line ∷ lines) v w facts (no_form p e) (no_cell q f) = absurd (p q.form q.has_form)
    once (line ∷ lines) v w facts (no_form p e) (not_so q f) = absurd (p q.stated.form q.stated.has_form)
    once (line ∷ lines) v w facts (no_form p e) (so claim states holds after) = absurd (p states.form states.has_form)
    once (line ∷ lines) v w facts (no_cell p e) (no_form q f) = absurd (q p.form p.has_form)
    once (line ∷ lines) v w facts (no_cell p e) (no_cell q f) = e ∙ sym f
    once (line ∷ lines) v w facts (no_cell p e) (not_so q f) = absurd (cell-not line.1 q.claim q.stated p)
    once (line ∷ lines) v w facts (no_cell p e) (so claim states holds after) = absurd (cell-not line.1 claim states p)
    once (line ∷ lines) v w facts (not_so p e) (no_form q f) = absurd (q p.stated.form p.stated.has_form)
    once (line ∷ lines) v w facts (not_so p e) (no_cell q f) = absurd (cell-not line.1 p.claim p.stated q)
    once (line ∷ lines) v w facts (not_so p e) (not_so q f) = e ∙ sym f
    once (line ∷ lines) v w facts (not_so p e) (so claim states holds after) = absurd (so-not facts line.1 claim states holds p)
    once (line ∷ lines) v w facts (so claim states holds after) (no_form q f) = absurd (q states.form states.has_form)
    once (line ∷ lines) v w facts (so claim states holds after) (no_cell q f) = absurd (cell-not line.1 claim states q)
    once (line ∷ lines) v w facts (so claim states holds after) (not_so q f) = absurd (so-not facts line.1 claim states holds q)
    once (line ∷ lines) v w facts (so a p x after) (so b q y later) =
        after-once (Comes lines v) (Comes lines w) v w (once lines v w) lines facts b (subst (λ z. After (Comes lines v) facts lines z v) (one-claim c d.cycles circuit line.1 a b p q) after) later

  -- lines that state facts lead on to what comes behind these
  leads-on : (before tail : List Line) (v : Verdict) (so_far facts : List Fact) → AllZip (λ line fact. States c d.cycles line.1 (Forced fact)) before facts
      → AreForced (unrolled_over c d.cycles) (passing (dump_has d.rows)) so_far facts → Comes tail v (so_far ++ facts) → Comes (before ++ tail) v so_far
  leads-on [] tail v so_far [] each forced h = subst (Comes tail v) (append-nil so_far) h
  leads-on [] tail v so_far (fact ∷ facts) each forced h = absurd each
  leads-on (line ∷ before) tail v so_far [] each forced h = absurd each
  leads-on (line ∷ before) tail v so_far (fact ∷ facts) each forced h =
      so (Forced fact) each.0 forced.0 (leads-on before tail v (so_far ++ fact ∷ []) facts each.1 forced.1 (subst (Comes tail v) (sym (append_assoc so_far (fact ∷ []) facts)) h))

  behind-facts : (lines before tail : List Line) (v : Verdict) (facts : List Fact) → lines ≡ before ++ tail → StateFacts c d before facts → Comes tail v facts → Comes lines v []
  behind-facts lines before tail v facts e stated h = subst (λ (ls : List Line). Comes ls v []) (sym e) (leads-on before tail v [] facts stated.each stated.forced h)

  ended : (facts : List Fact) (clash : Option Cell) (line : Line) (lines : List Line) (v : Verdict) → States c d.cycles line.1 (last_claim clash)
      → Holds (unrolled_over c d.cycles) (known_by d facts) (last_claim clash) → Ends facts clash lines v → Comes (line ∷ lines) v facts
  ended facts None line lines v states holds h = so End states holds h
  ended facts (Some cell) line lines v states holds h = so (Contradiction cell) states holds h

  complete-comes : (lines more tail : List Line) (v : Verdict) (facts : List Fact) (clash : Option Cell) → lines ≡ more ++ tail → AreComplete c d more facts clash → Ends facts clash tail v → Comes lines v []
  complete-comes lines more tail v facts clash e all h =
      behind-facts lines all.before (all.last ∷ tail) v facts (e ∙ ap (λ (ls : List Line). ls ++ tail) all.whole ∙ append_assoc all.before (all.last ∷ []) tail) all.facts_stated
      (ended facts clash all.last tail v all.last_stated all.holds h)

  syntax-comes : (lines : List Line) (line : ℕ) → IsSyntaxFault c d past lines line → Comes lines (Refused (CertSyntax line)) []
  syntax-comes lines line (has_no_form f) = behind-facts lines f.before ((line, f.bad) ∷ f.after) (Refused (CertSyntax line)) f.said f.whole f.say (no_form f.fault refl)
  syntax-comes lines line (behind_last f) = complete-comes lines f.before ((line, f.bad) ∷ f.after) (Refused (CertSyntax line)) f.said f.say.0 f.whole f.say.1 refl
  syntax-comes lines line (no_last facts stated e) = behind-facts lines lines [] (Refused (CertSyntax line)) facts (sym (append-nil lines)) stated (ap (λ n. Refused (CertSyntax n)) e)

-- the text has no head, or lines behind it that come to the verdict
abbrev Judges : Circuit → Recording → List ℕ → Verdict → Type 0
Judges c d text v =
    ((line : ℕ) × FailsFirst IsHead (past_end text) (numbered text) line × (v ≡ Refused (CertHead line))) ⊎ ((lines : List Line) × HasHead text lines × Comes c d (past_end text) lines v [])

judges-valid : (c : Circuit) (d : Recording) (text : List ℕ) (facts : List Fact) (clash : Option Cell) → IsValid c d text facts clash → Judges c d text (Valid facts clash)
judges-valid c d text facts clash h =
    inr (h.lines, h.head, complete-comes c d (past_end text) h.lines h.lines [] (Valid facts clash) facts clash (sym (append-nil h.lines)) h.complete refl)

judges-refused : (c : Circuit) (d : Recording) (text : List ℕ) (e : CertRefusal) → (e ≢ NoMemory) → IsRefusal c d text e → Judges c d text (Refused e)
judges-refused c d text (CertHead line) some h = inl (line, h, refl)
judges-refused c d text (CertSyntax line) some h = inr (h.0, h.1, syntax-comes c d (past_end text) h.0 line h.2)
judges-refused c d text (CertCell line) some h =
    let f = h.2 in
    inr (h.0, h.1, behind-facts c d (past_end text) h.0 f.before ((line, f.bad) ∷ f.after) (Refused (CertCell line)) f.said f.whole f.say (no_cell f.fault refl))
judges-refused c d text (NotForced line) some h =
    let f = h.2 in
    inr (h.0, h.1, behind-facts c d (past_end text) h.0 f.before ((line, f.bad) ∷ f.after) (Refused (NotForced line)) f.said f.whole f.say (not_so f.fault refl))
judges-refused c d text NoMemory some h = absurd (some refl)

fails-once : (past : ℕ) (lines : List Line) (a b : ℕ) → FailsFirst IsHead past lines a → FailsFirst IsHead past lines b → a ≡ b
fails-once past [] a b h k = h ∙ sym k
fails-once past (line ∷ lines) a b h k = h.0 ∙ sym k.0

fails-not : (text : List ℕ) (lines : List Line) (line : ℕ) → HasHead text lines → FailsFirst IsHead (past_end text) (numbered text) line → ⊥
fails-not text lines line has fails =
    let at : FailsFirst IsHead (past_end text) (has.head ∷ lines) line = subst (λ (ls : List Line). FailsFirst IsHead (past_end text) ls line) has.whole fails in
    at.1 has.is_head

judged-once : (c : Circuit) (d : Recording) (text : List ℕ) (v w : Verdict) → IsCircuit c → Judges c d text v → Judges c d text w → v ≡ w
judged-once c d text v w circuit (inl h) (inl k) = h.2 ∙ ap (λ n. Refused (CertHead n)) (fails-once (past_end text) (numbered text) h.0 k.0 h.1 k.1) ∙ sym k.2
judged-once c d text v w circuit (inl h) (inr k) = absurd (fails-not text k.0 h.0 k.1 h.1)
judged-once c d text v w circuit (inr h) (inl k) = absurd (fails-not text h.0 k.0 h.1 k.1)
judged-once c d text v w circuit (inr h) (inr k) =
    let same : h.0 ≡ k.0 = (same_cons h.1.head k.1.head h.0 k.0 (sym h.1.whole ∙ k.1.whole)).1 in
    once c d (past_end text) circuit k.0 v w [] (subst (λ (ls : List Line). Comes c d (past_end text) ls v []) same h.2) k.2

abbrev facts-in : List Fact → Verdict → List Fact
facts-in other (Valid facts clash) = facts
facts-in other (Refused e) = other

abbrev clash-in : Verdict → Option Cell
clash-in (Valid facts clash) = clash
clash-in (Refused e) = None

abbrev refusal-in : Verdict → CertRefusal
refusal-in (Valid facts clash) = NoMemory
refusal-in (Refused e) = e

pub one_validity : IsValidOnce
one_validity c d text facts others clash other circuit h k =
    let same = judged-once c d text (Valid facts clash) (Valid others other) circuit (judges-valid c d text facts clash h) (judges-valid c d text others other k) in
    (ap (facts-in []) same, ap clash-in same)

pub one_refusal : IsRefusedOnce
one_refusal c d text a b circuit h k some other =
    ap refusal-in (judged-once c d text (Refused a) (Refused b) circuit (judges-refused c d text a some h) (judges-refused c d text b other k))

refused-not : (c : Circuit) (d : Recording) (text : List ℕ) (facts : List Fact) (clash : Option Cell) (e : CertRefusal) → IsCircuit c → IsValid c d text facts clash → (e ≢ NoMemory) → IsRefusal c d text e → ⊥
refused-not c d text facts clash e circuit h some k =
    some (sym (ap refusal-in (judged-once c d text (Valid facts clash) (Refused e) circuit (judges-valid c d text facts clash h) (judges-refused c d text e some k))))

pub not_both : ValidAreNotRefused
not_both c d text facts clash NoMemory circuit h k = refl
not_both c d text facts clash (CertHead line) circuit h k = absurd (refused-not c d text facts clash (CertHead line) circuit h (λ e. cc) k)
not_both c d text facts clash (CertSyntax line) circuit h k = absurd (refused-not c d text facts clash (CertSyntax line) circuit h (λ e. cc) k)
not_both c d text facts clash (CertCell line) circuit h k = absurd (refused-not c d text facts clash (CertCell line) circuit h (λ e. cc) k)
not_both c d text facts clash (NotForced line) circuit h k = absurd (refused-not c d text facts clash (NotForced line) circuit h (λ e. cc) k)
