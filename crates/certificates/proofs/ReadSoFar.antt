-- What has been read of a certificate, line by line.
use Rattle.std.proofs.Common.{◌≡◌, ◌⊎◌, ◌↔◌, ℕ, Bool, false, List, [], ◌∷◌, ◌++◌, Option, refl, sym, ap, subst, ◌∙◌, inl, inr, append_assoc}
use Rattle.std.specs.Prelude.{IsTrue}
use Rattle.std.proofs.lemmas.Bool.{true≢false}
use Rattle.std.proofs.lemmas.List.{append-nil, map-append}
use Rattle.std.proofs.lemmas.Slice.Zip.{all_zipped_more}
use Rattle.sr_model.specs.declared.cells.Cell.{Cell}
use Rattle.sr_model.specs.declared.cells.Lit.{Lit}
use Rattle.sr_model.specs.Closure.{SameLits, passing}
use Rattle.sr_model.specs.Dump.{dump_has}
use Rattle.sr_model.proofs.lemmas.Members.{not_in_nil}
use Rattle.netlist.specs.Circuit.{Circuit, unrolled_over}
use Rattle.sr_text.specs.Lines.{numbered, past_end}
use Rattle.dump_reader.specs.Grammar.{FailsFirst}
use Rattle.dump_reader.specs.Recording.{Recording}
use Rattle.unroll.specs.Problem.{Unrolling, unrolled}
use Rattle.known_planes.specs.Planes.{has, lits}
use Rattle.certificates.specs.declared.claim.Fact.{Fact}
use Rattle.certificates.specs.declared.claim.Claim.{Claim}
use Rattle.certificates.specs.declared.claim.Claim.TheVariants.{Forced}
use Rattle.certificates.specs.declared.known.Known.{Known}
use Rattle.certificates.specs.declared.refusal.CertRefusal.{CertRefusal}
use Rattle.certificates.specs.declared.refusal.CertRefusal.TheVariants.{CertHead, CertSyntax, CertCell, NotForced, NoMemory}
use Rattle.certificates.specs.Checking.{ReadsHead, IsHeadRefusal, IsNotLast}
use Rattle.certificates.specs.Forms.{IsHead}
use Rattle.certificates.specs.Grammar.{Means, States}
use Rattle.certificates.specs.Known.{IsKept, IsThere}
use Rattle.certificates.specs.Refusal.{IsRefusal, IsLineRefusal, has_no_form, behind_last, no_last}
use Rattle.certificates.specs.Validity.{AreComplete, HasHead, Holds, IsValid, StateFacts, known_by, last_claim, lits_of}
use Rattle.certificates.proofs.Holding.{forced-push, holds-more, in-more, in-more-cases, there}

abbrev Line : Type 0
Line = ℕ × List ℕ

-- the circuit over the cycles of the dump
abbrev pub over : Circuit → Recording → Unrolling
over c d = record { circuit = c; cycles = d.cycles }

-- the text's head and some lines state these facts, whose literals are known beside the dump's, and these lines are left
pub record HasRead (c : Circuit) (d : Recording) (text : List ℕ) (u : Unrolling) (left : List Line) (past : ℕ) (known : Known) (read : List Lit) : Type 0 where
  pub problem : u ≡ over c d
  pub kept : IsKept u known
  pub facts : List Fact
  pub before : List Line
  pub head : HasHead text (before ++ left)
  pub stated : StateFacts c d before facts
  pub literals : SameLits (lits u known.planes) (known_by d facts)
  pub read_is : read ≡ lits_of facts
  pub past_is : past ≡ past_end text

module _ (c : Circuit) (d : Recording) (text : List ℕ) (u : Unrolling) where
  pub starts : (known : Known) (first left : List Line) (past : ℕ) (read : List Lit) → u ≡ over c d → IsKept u known → ((l : Lit) → has u known.planes l ≡ dump_has d.rows l)
      → first ≡ numbered text → ReadsHead first left → past ≡ past_end text → read ≡ [] → HasRead c d text u left past known read
  starts known first left past read problem kept same first_is reads past_is none = record {
    problem = problem;
    kept = kept;
    facts = [];
    before = [];
    head = record { head = reads.0; whole = sym first_is ∙ reads.1; is_head = reads.2 };
    stated = record { each = tt; forced = tt };
    literals = (λ l h. inl (sym (same l) ∙ h), λ l h. elim h [ inl known ↦ same l ∙ known | inr stated ↦ absurd (not_in_nil l stated) ]);
    read_is = none;
    past_is = past_is;
  }

  pub head_refused : (first : List Line) (past : ℕ) (e : CertRefusal) → first ≡ numbered text → past ≡ past_end text → IsHeadRefusal past first e → IsRefusal c d text e
  head_refused first past (CertHead line) first_is past_is refused =
      subst (λ (ls : List Line). FailsFirst IsHead (past_end text) ls line) first_is (subst (λ n. FailsFirst IsHead n first line) past_is refused)
  head_refused first past (CertSyntax line) first_is past_is refused = absurd refused
  head_refused first past (CertCell line) first_is past_is refused = absurd refused
  head_refused first past (NotForced line) first_is past_is refused = absurd refused
  head_refused first past NoMemory first_is past_is refused = absurd refused

  module _ (left : List Line) (past : ℕ) (known : Known) (read : List Lit) (so_far : HasRead c d text u left past known read) where
    abbrev facts : List Fact
    facts = so_far.facts

    stated-there : (line : List ℕ) (claim : Claim) → States u.circuit u.cycles line claim → States c d.cycles line claim
    stated-there line claim states = subst (λ (x : Unrolling). States x.circuit x.cycles line claim) so_far.problem states

    pub is-there : (line : List ℕ) (claim : Claim) → States u.circuit u.cycles line claim → IsThere u claim
    is-there line claim states = there u.circuit u.cycles states.form claim so_far.kept.problem.is_circuit states.means

    -- what holds of the planes holds of the dump with the facts, and the other way round
    holds-there : (claim : Claim) → Holds (unrolled u) (lits u known.planes) claim → Holds (unrolled_over c d.cycles) (known_by d facts) claim
    holds-there claim h =
        subst (λ (x : Unrolling). Holds (unrolled x) (known_by d facts) claim) so_far.problem (holds-more (unrolled u) (lits u known.planes) (known_by d facts) claim so_far.literals.0 h)

    holds-here : (claim : Claim) → Holds (unrolled_over c d.cycles) (known_by d facts) claim → Holds (unrolled u) (lits u known.planes) claim
    holds-here claim h =
        holds-more (unrolled u) (known_by d facts) (lits u known.planes) claim so_far.literals.1 (subst (λ (x : Unrolling). Holds (unrolled x) (known_by d facts) claim) (sym so_far.problem) h)

    -- no line is left
    pub none_left : (number : ℕ) → left ≡ [] → number ≡ past → IsRefusal c d text (CertSyntax number)
    none_left number none is = (
      so_far.before,
      subst (HasHead text) (ap (λ (ls : List Line). so_far.before ++ ls) none ∙ append-nil so_far.before) so_far.head,
      no_last facts so_far.stated (is ∙ so_far.past_is),
    )

    module _ (number : ℕ) (line : List ℕ) (rest : List Line) (left_is : left ≡ (number, line) ∷ rest) where
      whole : so_far.before ++ left ≡ so_far.before ++ (number, line) ∷ rest
      whole = ap (λ (ls : List Line). so_far.before ++ ls) left_is

      pub line_refused : (e : CertRefusal) → IsLineRefusal u.circuit u.cycles number line e → IsRefusal c d text e
      line_refused (CertHead at) refused = absurd refused
      line_refused (CertSyntax at) refused = (
        so_far.before ++ left,
        so_far.head,
        has_no_form (record { before = so_far.before; bad = line; after = rest; whole = whole ∙ ap (λ n. so_far.before ++ (n, line) ∷ rest) (sym refused.0); said = facts; say = so_far.stated; fault = refused.1 }),
      )
      line_refused (CertCell at) refused = (
        so_far.before ++ left,
        so_far.head,
        record {
          before = so_far.before;
          bad = line;
          after = rest;
          whole = whole ∙ ap (λ n. so_far.before ++ (n, line) ∷ rest) (sym refused.0);
          said = facts;
          say = so_far.stated;
          fault = record {
            form = refused.1.form;
            has_form = refused.1.has_form;
            means_none = λ claim m. refused.1.means_none claim (subst (λ (x : Unrolling). Means x.circuit x.cycles refused.1.form claim) (sym so_far.problem) m);
          };
        },
      )
      line_refused (NotForced at) refused = absurd refused
      line_refused NoMemory refused = absurd refused

      module _ (claim : Claim) (states : States u.circuit u.cycles line claim) where
        pub claim_refused : (answer : Bool) → IsTrue answer ↔ Holds (unrolled u) (lits u known.planes) claim → answer ≡ false → IsRefusal c d text (NotForced number)
        claim_refused answer exact fails = (
          so_far.before ++ left,
          so_far.head,
          record {
            before = so_far.before;
            bad = line;
            after = rest;
            whole = whole;
            said = facts;
            say = so_far.stated;
            fault = record { claim = claim; stated = stated-there line claim states; fails = λ h. true≢false (sym (exact.1 (holds-here claim h)) ∙ fails) };
          },
        )

        module _ (h : Holds (unrolled u) (lits u known.planes) claim) where
          -- the line states a further fact
          pub more : (fact : Fact) (grown : Known) (longer : List Lit) (after : ℕ) → claim ≡ Forced fact → IsKept u grown
              → ((m : Lit) → IsTrue (has u grown.planes m) ↔ (IsTrue (has u known.planes m) ⊎ (fact.lit ≡ m))) → longer ≡ read ++ fact.lit ∷ [] → after ≡ past → HasRead c d text u rest after grown longer
          more fact grown longer after is kept grows read_more same_past = record {
            problem = so_far.problem;
            kept = kept;
            facts = facts ++ fact ∷ [];
            before = so_far.before ++ (number, line) ∷ [];
            head = subst (HasHead text) (whole ∙ sym (append_assoc so_far.before ((number, line) ∷ []) rest)) so_far.head;
            stated = record {
              each = all_zipped_more (λ (l : Line) (f : Fact). States c d.cycles l.1 (Forced f)) so_far.before facts (number, line) fact so_far.stated.each
                  (subst (States c d.cycles line) is (stated-there line claim states));
              forced = forced-push (unrolled_over c d.cycles) (passing (dump_has d.rows)) [] facts fact so_far.stated.forced (subst (Holds (unrolled_over c d.cycles) (known_by d facts)) is (holds-there claim h));
            };
            literals = (
              λ m k. in-more (passing (dump_has d.rows)) facts fact m (elim ((grows m).0 k) [ inl was ↦ inl (so_far.literals.0 m was) | inr new ↦ inr new ]),
              λ m k. (grows m).1 (elim (in-more-cases (passing (dump_has d.rows)) facts fact m k) [ inl was ↦ inl (so_far.literals.1 m was) | inr new ↦ inr new ]),
            );
            read_is = read_more ∙ ap (λ (ls : List Lit). ls ++ fact.lit ∷ []) so_far.read_is ∙ sym (map-append (λ (f : Fact). f.lit) facts (fact ∷ []));
            past_is = same_past ∙ so_far.past_is;
          }

          -- it is the last line
          complete : (clash : Option Cell) → claim ≡ last_claim clash → AreComplete c d (so_far.before ++ (number, line) ∷ []) facts clash
          complete clash is = record {
            before = so_far.before;
            last = (number, line);
            whole = refl;
            facts_stated = so_far.stated;
            last_stated = subst (States c d.cycles line) is (stated-there line claim states);
            holds = subst (Holds (unrolled_over c d.cycles) (known_by d facts)) is (holds-there claim h);
          }

          pub valid : (clash : Option Cell) (found : List Lit) → claim ≡ last_claim clash → rest ≡ [] → found ≡ read → (all : List Fact) × IsValid c d text all clash × (found ≡ lits_of all)
          valid clash found is none same = (
            facts,
            record {
              lines = so_far.before ++ (number, line) ∷ [];
              head = subst (HasHead text) (whole ∙ ap (λ (ls : List Line). so_far.before ++ (number, line) ∷ ls) none) so_far.head;
              complete = complete clash is;
            },
            same ∙ so_far.read_is,
          )

          -- a line stands behind it
          pub not_last : (clash : Option Cell) (e : CertRefusal) → claim ≡ last_claim clash → IsNotLast rest e → IsRefusal c d text e
          not_last clash (CertHead at) is refused = absurd refused
          not_last clash (CertSyntax at) is refused = (
            so_far.before ++ left,
            so_far.head,
            behind_last (record {
              before = so_far.before ++ (number, line) ∷ [];
              bad = refused.0;
              after = refused.1;
              whole = whole ∙ ap (λ (ls : List Line). so_far.before ++ (number, line) ∷ ls) refused.2 ∙ sym (append_assoc so_far.before ((number, line) ∷ []) ((at, refused.0) ∷ refused.1));
              said = facts;
              say = (clash, complete clash is);
              fault = tt;
            }),
          )
          not_last clash (CertCell at) is refused = absurd refused
          not_last clash (NotForced at) is refused = absurd refused
          not_last clash NoMemory is refused = absurd refused
