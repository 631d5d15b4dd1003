-- Planes of a row chunk after chunk, and planes that take the words of others block after block.
use Rattle.std.specs.Prelude.{nat_lt}
use Rattle.std.proofs.Common.{ℕ, ◌≡◌, ◌+◌, ◌/◌, ◌<◌, ◌&&◌, ◌||◌, Bool, true, false, ltb, List, get_or, arith, inl, inr, refl, sym, ap, ◌∙◌}
use Rattle.std.proofs.lemmas.Bool.{cases_eq, cases_order, lt-ltb, le-ltb, eq-eqb, ne_eqb}
use Rattle.sr_model.specs.declared.cells.Sig.{Sig}
use Rattle.sr_model.specs.declared.cells.Lit.{Lit}
use Rattle.sr_model.specs.Closure.{Closure, SameLits, passing}
use Rattle.sr_model.proofs.lemmas.Laws.{monotone}
use Rattle.unroll.specs.declared.words.PinWord.{PinWord}
use Rattle.unroll.specs.Bits.{is_set, no_words, word_for}
use Rattle.unroll.specs.Problem.{Unrolling, signals_in, chunks_in, block_at, bit_of, unrolled}
use Rattle.known_planes.specs.Planes.{PlaneSet, IsOf, has, lits, with_words}
use Rattle.known_planes.specs.Rows.{row_has, row_words_at}
use Rattle.known_planes.proofs.Members.{has-there, has-elsewhere}

-- the planes have the literals of a row's first chunks
abbrev pub HasRow : Unrolling → Sig → List PinWord → ℕ → PlaneSet → Type 0
HasRow u s row chunk planes = (l : Lit) → has u planes l ≡ (ltb (l.cell.cycle / 64) chunk && row_has u s row l)

-- the planes stay of the problem, their mark stays, and the first blocks have the words of other planes
pub record HasTaken (u : Unrolling) (old from : PlaneSet) (b : ℕ) (planes : PlaneSet) : Type 0 where
  pub of : IsOf u planes
  pub mark : planes.mark ≡ old.mark
  pub words : (a : ℕ) → a < b → get_or planes.words a no_words ≡ get_or from.words a no_words

module _ (u : Unrolling) (s : Sig) (row : List PinWord) (h : s.0 < signals_in u) where
  -- a chunk more
  pub row-more : (chunk : ℕ) (planes new : PlaneSet) (w : PinWord) → IsOf u planes → chunk < chunks_in u → w ≡ row_words_at row chunk → new ≡ with_words planes (block_at u s chunk) w → HasRow u s row chunk planes
      → HasRow u s row (chunk + 1) new
  row-more chunk planes new w of k w_is is before l =
      ap (λ x. has u x l) is
      ∙ elim (cases_order (l.cell.cycle / 64) chunk) [
        | inl same ↦
            elim (cases_eq s.0 l.cell.sig.0) [
              | inl sig ↦
                  has-there u planes s chunk w of h k l sig (sym same)
                  ∙ ap (λ x. nat_lt l.cell.cycle u.cycles && is_set (word_for l.bit x) (bit_of l.cell)) (w_is ∙ ap (row_words_at row) (sym same))
                  ∙ sym (ap (λ b. b && row_has u s row l) (lt-ltb (l.cell.cycle / 64) (chunk + 1) (omega (arith, same)))
                  ∙ ap (λ b. b && (nat_lt l.cell.cycle u.cycles && is_set (word_for l.bit (row_words_at row (l.cell.cycle / 64))) (bit_of l.cell))) (eq-eqb l.cell.sig.0 s.0 (sym sig)))
              | inr other ↦
                  has-elsewhere u planes s chunk w k l (λ a _. other a) ∙ before l
                  ∙ none-here (ltb (l.cell.cycle / 64) chunk) (ltb (l.cell.cycle / 64) (chunk + 1)) l (λ e. other (sym e))
            ]
        | inr (inl below) ↦
            has-elsewhere u planes s chunk w k l (λ _ b. omega (arith, b, below)) ∙ before l
            ∙ ap (λ b. b && row_has u s row l) (lt-ltb (l.cell.cycle / 64) chunk below ∙ sym (lt-ltb (l.cell.cycle / 64) (chunk + 1) (omega (arith, below))))
        | inr (inr above) ↦
            has-elsewhere u planes s chunk w k l (λ _ b. omega (arith, b, above)) ∙ before l
            ∙ ap (λ b. b && row_has u s row l) (le-ltb (l.cell.cycle / 64) chunk (omega (arith, above)) ∙ sym (le-ltb (l.cell.cycle / 64) (chunk + 1) (omega (arith, above))))
      ]
    where
      none-here : (a b : Bool) (l : Lit) → (l.cell.sig.0 ≡ s.0 → ⊥) → (a && row_has u s row l) ≡ (b && row_has u s row l)
      none-here a b l other = ap (λ t. a && (t && rest l)) (ne_eqb l.cell.sig.0 s.0 other) ∙ and-false a ∙ sym (ap (λ t. b && (t && rest l)) (ne_eqb l.cell.sig.0 s.0 other) ∙ and-false b)
        where
          rest : Lit → Bool
          rest l = nat_lt l.cell.cycle u.cycles && is_set (word_for l.bit (row_words_at row (l.cell.cycle / 64))) (bit_of l.cell)

          and-false : (t : Bool) → (t && false) ≡ false
          and-false true = refl
          and-false false = refl

-- planes with the literals of the closure with a row's planes
pub taken-closure : (u : Unrolling) (old added all new : PlaneSet) (row : Lit → Bool) → ((l : Lit) → has u added l ≡ row l) → ((l : Lit) → has u new l ≡ has u all l)
    → SameLits (lits u all) (Closure (unrolled u) (passing (λ l. has u old l || has u added l))) → SameLits (lits u new) (Closure (unrolled u) (passing (λ l. has u old l || row l)))
taken-closure u old added all new row added_has new_has closed = (
  λ l known. monotone (unrolled u) (passing (λ k. has u old k || has u added k)) (passing (λ k. has u old k || row k)) (λ k h. sym (ap (λ b. has u old k || b) (added_has k)) ∙ h) l (closed.0 l (sym (new_has l) ∙ known)),
  λ l follows. new_has l ∙ closed.1 l (monotone (unrolled u) (passing (λ k. has u old k || row k)) (passing (λ k. has u old k || has u added k)) (λ k h. ap (λ b. has u old k || b) (added_has k) ∙ h) l follows),
)
