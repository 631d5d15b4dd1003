-- Each text is a dump or is refused.
use Rattle.std.proofs.Common.{◌≡◌, ◌≢◌, ◌⊎◌, ℕ, zero, suc, ◌≤◌, List, [], ◌∷◌, ◌++◌, length, codes, refl, sym, subst, inl, inr, arith}
use Rattle.std.specs.Fmt.{decimal}
use Rattle.std.proofs.lemmas.Bool.{cases_eq, cases_lt}
use Rattle.dump_reader.specs.declared.refusal.DumpRefusal.{DumpRefusal}
use Rattle.dump_reader.specs.declared.refusal.DumpRefusal.TheVariants.{Head, Cycles, TooManyCells, NoMemory}
use Rattle.dump_reader.specs.Recording.{Recording}
use Rattle.sr_model.specs.Limits.{block_count, max_blocks, max_cycles}
use Rattle.sr_text.specs.Lines.{numbered, past_end}
use Rattle.dump_reader.specs.Tokens.{HasTwoTokens}
use Rattle.dump_reader.specs.Grammar.{IsHead, IsCyclesLine, FailsFirst, Spells}
use Rattle.dump_reader.specs.Refusal.{IsRefusal}
use Rattle.dump_reader.specs.Laws.{IsReadOrRefused}
use Rattle.dump_reader.proofs.Tokens.{two_or_none, same_tokens}
use Rattle.sr_text.proofs.lemmas.FirstFaults.{Line}
use Rattle.dump_reader.proofs.ReadSoFar.{HasRead, starts, more, all_read, row_refused}
use Rattle.dump_reader.proofs.RowOrRefused.{same_or_other, row_or_bad}

-- two tokens are these, or not
tokens_or_not : (text first second : List ℕ) → HasTwoTokens text first second ⊎ (HasTwoTokens text first second → ⊥)
tokens_or_not text first second =
    elim (two_or_none text) [
      | inr none ↦ inr (none first second)
      | inl (a, b, h) ↦ elim (same_or_other a first) [
        | inr other ↦ inr (λ k. other (same_tokens text a b first second h k).0)
        | inl same ↦ elim (same_or_other b second) [
          | inr other ↦ inr (λ k. other (same_tokens text a b first second h k).1)
          | inl same_second ↦ inl (subst (HasTwoTokens text first) same_second (subst (λ t. HasTwoTokens text t b) same h))
        ]
      ]
    ]

-- a line gives some number of cycles up to n, or none of these
count_below : (text : List ℕ) (n : ℕ) → n ≤ max_cycles → ((cycles : ℕ) × IsCyclesLine cycles text) ⊎ ((cycles : ℕ) → cycles ≤ n → IsCyclesLine cycles text → ⊥)
count_below text zero few = inr (λ cycles le is. let low = is.0.0 in omega arith)
count_below text (suc n) few =
    elim (count_below text n (omega arith)) [
      | inl found ↦ inl found
      | inr none ↦ elim (tokens_or_not text (codes "cycles") (decimal (suc n))) [
        | inl tokens ↦ inl (suc n, ((omega arith, few), tokens))
        | inr other ↦ inr (λ cycles le is. elim (cases_eq cycles (suc n)) [
          | inl same ↦ other (subst (λ k. HasTwoTokens text (codes "cycles") (decimal k)) same is.1)
          | inr differ ↦ none cycles (omega arith) is
        ])
      ]
    ]

cycles_or_none : (text : List ℕ) → ((cycles : ℕ) × IsCyclesLine cycles text) ⊎ (((cycles : ℕ) × IsCyclesLine cycles text) → ⊥)
cycles_or_none text = elim (count_below text max_cycles (omega arith)) [ inl found ↦ inl found | inr none ↦ inr (λ found. none found.0 found.1.0.1 found.1) ]

abbrev Outcome : List (List ℕ) → ℕ → List ℕ → Type 0
Outcome names signals text = ((r : Recording) × Spells names signals text r) ⊎ ((e : DumpRefusal) × IsRefusal names signals text e × (e ≢ NoMemory))

-- the rows that are left, behind those that were read
rows_read : (names : List (List ℕ)) (signals : ℕ) (text : List ℕ) (r : Recording) (left : List Line) → HasRead names signals text r left → Outcome names signals text
rows_read names signals text r [] read = inl (r, all_read names signals text r [] read refl)
rows_read names signals text r (line ∷ left) read =
    elim (row_or_bad names r.cycles r.rows line.0 line.1) [
      | inr (e, bad, some) ↦ inr (e, row_refused names signals text r line.0 line.1 (line ∷ left) left e read refl bad, some)
      | inl (row, states, new) ↦
          let longer : Recording = record { cycles = r.cycles; rows = r.rows ++ row ∷ [] } in
          rows_read names signals text longer left (more names signals text r longer line.0 line.1 (line ∷ left) left row read refl states new refl refl)
    ]

cells_read : (names : List (List ℕ)) (signals : ℕ) (text : List ℕ) (head line : Line) (left : List Line) (cycles : ℕ) → numbered text ≡ head ∷ line ∷ left → IsHead head.1 → IsCyclesLine cycles line.1 → Outcome names signals text
cells_read names signals text head line left cycles e is_head count =
    elim (cases_lt max_blocks (block_count signals cycles)) [
      | inl many ↦ inr (
        TooManyCells line.0 (block_count signals cycles),
        record { cycles = cycles; lines = left; front = record { head = head; cycles_line = line.1; whole = e; is_head = is_head; is_cycles_line = count }; is_product = refl; many = many },
        λ other. cc,
      )
      | inr few ↦
          let none : Recording = record { cycles = cycles; rows = [] } in
          rows_read names signals text none left (starts names signals text (numbered text) (line ∷ left) left cycles none refl (head, e, is_head) (line, refl, count, few) refl refl)
    ]

cycles_read : (names : List (List ℕ)) (signals : ℕ) (text : List ℕ) (head : Line) (lines : List Line) → numbered text ≡ head ∷ lines → IsHead head.1 → Outcome names signals text
cycles_read names signals text head [] e is_head = inr (Cycles (past_end text), record { head = head; lines = []; whole = e; is_head = is_head; fault = refl }, λ other. cc)
cycles_read names signals text head (line ∷ left) e is_head =
    elim (cycles_or_none line.1) [
      | inl (cycles, count) ↦ cells_read names signals text head line left cycles e is_head count
      | inr none ↦ inr (Cycles line.0, record { head = head; lines = line ∷ left; whole = e; is_head = is_head; fault = (refl, none) }, λ other. cc)
    ]

head_read : (names : List (List ℕ)) (signals : ℕ) (text : List ℕ) (lines : List Line) → numbered text ≡ lines → Outcome names signals text
head_read names signals text [] e = inr (Head (past_end text), subst (λ (ls : List Line). FailsFirst IsHead (past_end text) ls (past_end text)) (sym e) refl, λ other. cc)
head_read names signals text (head ∷ lines) e =
    elim (tokens_or_not head.1 (codes "srdump") (codes "1")) [
      | inl is_head ↦ cycles_read names signals text head lines e is_head
      | inr other ↦ inr (Head head.0, subst (λ (ls : List Line). FailsFirst IsHead (past_end text) ls head.0) (sym e) (refl, other), λ r. cc)
    ]

pub read_or_refused : IsReadOrRefused
read_or_refused c text = head_read c.names (length c.drivers) text (numbered text) refl
