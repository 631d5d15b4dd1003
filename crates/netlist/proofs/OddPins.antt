-- The marks of the signals that stand an odd number of times among pins.
use Rattle.std.proofs.Common.{ℕ, ◌≡◌, ◌+◌, ◌-◌, ◌%◌, ◌<◌, ◌≤◌, ◌++◌, Bool, true, false, List, [], ◌∷◌, length, eqb, cond, get_or, take, drop, arith, sym, ap, ◌∙◌, refl, subst, length-drop, inl, inr, count_by}
use Rattle.std.proofs.lemmas.Bool.{cases_lt, cases_Bool, or_parts, true≢false}
use Rattle.std.proofs.lemmas.List.{length-append, drop-append-le, take-append-le}
use Rattle.std.proofs.lemmas.List.Sums.{sum_by-cons}
use Rattle.std.proofs.Math.Seq.{drop-append_seam, take-length}
use Rattle.sr_model.specs.declared.cells.Sig.{Sig}
use Rattle.netlist.specs.Entries.{has_sig, is_odd_in, start_of, marks_beside}
use Rattle.netlist.proofs.ListBounds.{start_of-le, start_of-more}

-- each signal has its mark where it stands an odd number of times among the pins
pub record Toggled (signals : ℕ) (pins : List Sig) (odd : List Bool) : Type 0 where
  pub size : length odd ≡ signals
  pub each : (s : ℕ) → get_or odd s false ≡ is_odd_in pins s

-- each signal has its mark, but those among the signals, which have none
pub record Cleared (before : List Bool) (sigs : List Sig) (odd : List Bool) : Type 0 where
  pub size : length odd ≡ length before
  pub each : (s : ℕ) → get_or odd s false ≡ cond (has_sig sigs s) false (get_or before s false)

-- a signal that is not among the pins stands there an even number of times
count-absent : (pins : List Sig) (s : ℕ) → has_sig pins s ≡ false → count_by (λ (p : Sig). eqb p.0 s) pins ≡ 0
count-absent [] s h = refl
count-absent (pin ∷ pins) s h =
    let parts = or_parts (eqb pin.0 s) (has_sig pins s) h in
    sum_by-cons (λ (p : Sig). cond {A = ℕ} (eqb p.0 s) 1 0) pin pins ∙ ap (λ b. cond {A = ℕ} b 1 0 + count_by (λ (p : Sig). eqb p.0 s) pins) parts.0
    ∙ ap (λ m. 0 + m) (count-absent pins s parts.1)

-- when the marks of signals among which all pins are were cleared, none is left
pub cleared-all : (pins sigs : List Sig) (marked cleared : List Bool) → ((s : ℕ) → has_sig pins s ≡ true → has_sig sigs s ≡ true) → ((s : ℕ) → get_or marked s false ≡ is_odd_in pins s)
    → ((s : ℕ) → get_or cleared s false ≡ cond (has_sig sigs s) false (get_or marked s false)) → (s : ℕ) → get_or cleared s false ≡ false
cleared-all pins sigs marked cleared among odd clear s =
    elim (cases_Bool (has_sig sigs s)) [
      | inl here ↦ clear s ∙ ap (λ b. cond b false (get_or marked s false)) here
      | inr lacks ↦
          let absent : has_sig pins s ≡ false = elim (cases_Bool (has_sig pins s)) [
            | inl there ↦ absurd (true≢false (sym (among s there) ∙ lacks))
            | inr none ↦ none
          ] in
          clear s ∙ ap (λ b. cond b false (get_or marked s false)) lacks ∙ odd s ∙ ap (λ m. eqb (m % 2) 1) (count-absent pins s absent)
    ]

-- the marks beside the first n lists were added, and no signal has a mark between two lists
pub record Marked (lists : List (List Sig)) (marks_of : Sig → List Bool) (signals n : ℕ) (marks odd : List Bool) : Type 0 where
  pub size : length odd ≡ signals
  pub clear : (s : ℕ) → get_or odd s false ≡ false
  pub so_far : length marks ≡ start_of lists n
  pub each : (s : ℕ) → s < n → marks_beside lists marks s ≡ marks_of (record { 0 = s })

-- more marks behind them leave those of the lists before
marks-kept : (lists : List (List Sig)) (marks more : List Bool) (n s : ℕ) → length marks ≡ start_of lists n → s < n → marks_beside lists (marks ++ more) s ≡ marks_beside lists marks s
marks-kept lists marks more n s size h =
    let order : start_of lists s ≤ start_of lists (s + 1) = start_of-le lists s (s + 1) (omega arith) in
    let last : start_of lists (s + 1) ≤ start_of lists n = start_of-le lists (s + 1) n (omega arith) in
    ap (take (start_of lists (s + 1) - start_of lists s)) (drop-append-le (start_of lists s) marks more (omega arith))
    ∙ take-append-le (start_of lists (s + 1) - start_of lists s) (drop (start_of lists s) marks) more (omega (arith, length-drop (start_of lists s) marks))

-- those of the next list
marks-next : (lists : List (List Sig)) (marks more : List Bool) (n : ℕ) → length marks ≡ start_of lists n → n < length lists → length more ≡ length (get_or lists n [])
    → marks_beside lists (marks ++ more) n ≡ more
marks-next lists marks more n size h fits =
    let many : start_of lists (n + 1) - start_of lists n ≡ length more = omega (arith, start_of-more lists n h) in
    ap (λ m. take m (drop (start_of lists n) (marks ++ more))) many ∙ ap (λ m. take (length more) (drop m (marks ++ more))) (sym size)
    ∙ ap (take (length more)) (drop-append_seam marks more) ∙ take-length more

pub Marked-more : (lists : List (List Sig)) (marks_of : Sig → List Bool) (signals n : ℕ) (marks new odd new_odd more : List Bool) → n < length lists → Marked lists marks_of signals n marks odd
    → new ≡ marks ++ more → more ≡ marks_of (record { 0 = n }) → length more ≡ length (get_or lists n []) → length new_odd ≡ signals → ((s : ℕ) → get_or new_odd s false ≡ false)
    → Marked lists marks_of signals (n + 1) new new_odd
Marked-more lists marks_of signals n marks new odd new_odd more h before added is fits size clear = record {
  size = size;
  clear = clear;
  so_far = omega (arith, ap length added, length-append marks more, before.so_far, start_of-more lists n h);
  each = λ s small. ap (λ ms. marks_beside lists ms s) added ∙ elim (cases_lt s n) [
    | inl less ↦ marks-kept lists marks more n s before.so_far less ∙ before.each s less
    | inr past ↦
        let at : n ≡ s = omega arith in
        subst (λ t. marks_beside lists (marks ++ more) t ≡ marks_of (record { 0 = t })) at (marks-next lists marks more n before.so_far h fits ∙ is)
  ];
}
