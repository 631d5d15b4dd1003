-- The rows of a dump, by its flat lists.
use Rattle.std.proofs.Common.{◌≡◌, ◌≢◌, ◌↔◌, ℕ, zero, suc, ◌+◌, ◌-◌, ◌*◌, ◌<◌, ◌≤◌, Bool, true, false, List, [], ◌∷◌, ◌++◌, length, get_or, set, take, drop, Some, Result, Ok, Err, cond, refl, sym, ap, subst, ◌∙◌, inl, inr, arith}
use Rattle.std.specs.Prelude.{IsTrue, Contains}
use Rattle.std.specs.Result.{is_ok, IsOk}
use Rattle.std.specs.List.{All, AllPairs, slice_get}
use Rattle.std.proofs.Math.Nat.{add-mul}
use Rattle.std.proofs.lemmas.Bool.{cases_eq}
use Rattle.std.proofs.lemmas.List.{length-append, length-drop, length-take-le, length-map, take_all, take-append-le, drop-append-le, drop-drop, get_or-set_same, get_or-set_other}
use Rattle.std.proofs.lemmas.List.Elements.{All-nil, All-cons, Contains-get_or, Contains-push, Contains-append_left, Contains-push_cases}
use Rattle.std.proofs.lemmas.List.Quantifiers.{all_pairs_push}
use Rattle.sr_model.specs.declared.cells.Sig.{Sig}
use Rattle.sr_model.specs.Dump.{Row}
use Rattle.dump_reader.specs.declared.dump.Tri.{Tri}
use Rattle.dump_reader.specs.Recording.{Recording, IsRecording, tri_bit, row_of, recorded}
use Rattle.dump_reader.specs.Kept.{rows_of}
use Rattle.dump_reader.specs.Kept.{IsKept, is_marked}

nil_from_length : {X : Type 0} (xs : List X) → length xs ≡ 0 → xs ≡ []
nil_from_length [] e = refl
nil_from_length (x ∷ xs) e = absurd (omega (arith, e))

pub length-rows_of : (cycles : ℕ) (sigs : List Sig) (cells : List Tri) → length (rows_of cycles sigs cells) ≡ length sigs
length-rows_of cycles [] cells = refl
length-rows_of cycles (sig ∷ sigs) cells = ap suc (length-rows_of cycles sigs (drop cycles cells))

pub recorded-rows_of : (cycles : ℕ) (sigs : List Sig) (cells : List Tri) → recorded (rows_of cycles sigs cells) ≡ sigs
recorded-rows_of cycles [] cells = refl
recorded-rows_of cycles (sig ∷ sigs) cells = ap (λ (ss : List Sig). sig ∷ ss) (recorded-rows_of cycles sigs (drop cycles cells))

-- the cells of one row more
rest_full : (cycles n : ℕ) (cells : List Tri) → length cells ≡ suc n * cycles → (cycles ≤ length cells) × (length (drop cycles cells) ≡ n * cycles)
rest_full cycles n cells e = let whole : suc n * cycles ≡ n * cycles + cycles = omega arith in (omega (arith, e, whole), omega (arith, e, whole, length-drop cycles cells))

pub rows_of-push : (cycles : ℕ) (sigs : List Sig) (cells : List Tri) (sig : Sig) (bits : List Tri) → length cells ≡ length sigs * cycles → length bits ≡ cycles
    → rows_of cycles (sigs ++ sig ∷ []) (cells ++ bits) ≡ rows_of cycles sigs cells ++ row_of sig bits ∷ []
rows_of-push cycles [] cells sig bits e f =
    let nothing : 0 * cycles ≡ 0 = omega arith in
    let none : cells ≡ [] = nil_from_length cells (e ∙ nothing) in
    ap (λ (cs : List Tri). row_of sig (take cycles (cs ++ bits)) ∷ []) none ∙ ap (λ (cs : List Tri). row_of sig cs ∷ []) (take_all cycles bits (omega (arith, f)))
rows_of-push cycles (first ∷ sigs) cells sig bits e f =
    let full = rest_full cycles (length sigs) cells e in
    ap (λ (cs : List Tri). row_of first cs ∷ rows_of cycles (sigs ++ sig ∷ []) (drop cycles (cells ++ bits))) (take-append-le cycles cells bits full.0)
    ∙ ap (λ (cs : List Tri). row_of first (take cycles cells) ∷ rows_of cycles (sigs ++ sig ∷ []) cs) (drop-append-le cycles cells bits full.0)
    ∙ ap (λ (rows : List Row). row_of first (take cycles cells) ∷ rows) (rows_of-push cycles sigs (drop cycles cells) sig bits full.1 f)

pub row_at : (cycles : ℕ) (sigs : List Sig) (cells : List Tri) (i : ℕ) (d : Sig) → i < length sigs → slice_get (rows_of cycles sigs cells) i ≡ Some (row_of (get_or sigs i d) (take cycles (drop (i * cycles) cells)))
row_at cycles [] cells i d lt = absurd (omega arith)
row_at cycles (sig ∷ sigs) cells zero d lt = let start : 0 ≡ 0 * cycles = omega arith in ap (λ n. Some (row_of sig (take cycles (drop n cells)))) start
row_at cycles (sig ∷ sigs) cells (suc i) d lt =
    let start : cycles + i * cycles ≡ suc i * cycles = omega arith in
    row_at cycles sigs (drop cycles cells) i d (omega (arith, lt))
    ∙ ap (λ (cs : List Tri). Some (row_of (get_or sigs i d) (take cycles cs))) (drop-drop (i * cycles) cycles cells ∙ ap (λ n. drop n cells) start)

parts : (i d cycles : ℕ) → (suc i + d) * cycles ≡ i * cycles + cycles + d * cycles
parts i d cycles = let first : suc i * cycles ≡ i * cycles + cycles = omega arith in add-mul (suc i) d cycles ∙ ap (λ n. n + d * cycles) first

one_row : (rows cells bits cycles : ℕ) → cells ≡ rows * cycles → bits ≡ cycles → cells + bits ≡ (rows + 1) * cycles
one_row rows cells bits cycles e f = let whole : (rows + 1) * cycles ≡ rows * cycles + cycles = omega arith in omega (arith, e, f, whole)

-- row i lies within the cells
pub row_within : (cycles rows i : ℕ) → i < rows → i * cycles + cycles ≤ rows * cycles
row_within cycles rows i lt =
    let d : ℕ = rows - suc i in
    let same : rows ≡ suc i + d = omega arith in
    let whole : rows * cycles ≡ i * cycles + cycles + d * cycles = ap (λ n. n * cycles) same ∙ parts i d cycles in
    omega (arith, whole)

pub rows_full : (cycles : ℕ) (sigs : List Sig) (cells : List Tri) → length cells ≡ length sigs * cycles → All (λ (row : Row). length row.bits ≡ cycles) (rows_of cycles sigs cells)
rows_full cycles [] cells e = All-nil (λ (row : Row). length row.bits ≡ cycles)
rows_full cycles (sig ∷ sigs) cells e =
    let full = rest_full cycles (length sigs) cells e in
    All-cons (λ (row : Row). length row.bits ≡ cycles) (row_of sig (take cycles cells)) (rows_of cycles sigs (drop cycles cells))
    (length-map (take cycles cells) tri_bit ∙ length-take-le cycles cells full.0) (rows_full cycles sigs (drop cycles cells) full.1)

pub kept_recording : (cycles : ℕ) (sigs : List Sig) (cells : List Tri) (marks : List Bool) → IsKept cycles sigs cells marks → IsRecording (record { cycles = cycles; rows = rows_of cycles sigs cells })
kept_recording cycles sigs cells marks kept = record {
  count = kept.count;
  full = rows_full cycles sigs cells kept.full;
  once = subst (AllPairs (λ (a b : Sig). a ≢ b)) (sym (recorded-rows_of cycles sigs cells)) kept.once;
}

same_sig : (a b : Sig) → a.0 ≡ b.0 → a ≡ b
same_sig a b e = ap (λ n. record { 0 = n }) e

pub kept_more : (cycles : ℕ) (sigs more : List Sig) (cells bits longer : List Tri) (marks room marked : List Bool) (sig : Sig) → IsKept cycles sigs cells marks → (Contains sigs sig → ⊥) → length bits ≡ cycles
    → more ≡ sigs ++ sig ∷ [] → longer ≡ cells ++ bits → ((i : ℕ) → is_marked room i ≡ is_marked marks i) → sig.0 < length room → marked ≡ set room sig.0 true → IsKept cycles more longer marked
kept_more cycles sigs more cells bits longer marks room marked sig kept fresh len e f same within g =
    let is : Sig → Type 0 = λ s. IsTrue (is_marked marked s.0) in
    let at : (s : Sig) → is_marked marked s.0 ≡ get_or (set room sig.0 true) s.0 false = λ s. ap (λ (ms : List Bool). get_or ms s.0 false) g in
    let here : is_marked marked sig.0 ≡ true = at sig ∙ get_or-set_same room sig.0 true false within in
    let there : (s : Sig) → s.0 ≢ sig.0 → is_marked marked s.0 ≡ is_marked marks s.0 = λ s other. at s ∙ get_or-set_other room sig.0 s.0 true false other ∙ same s.0 in
    record {
      count = kept.count;
      full =
          let longer_len : length longer ≡ length cells + length bits = ap length f ∙ length-append cells bits in
          let more_len : length more ≡ length sigs + 1 = ap length e ∙ length-append sigs (sig ∷ []) in
          longer_len ∙ one_row (length sigs) (length cells) (length bits) cycles kept.full len ∙ ap (λ n. n * cycles) (sym more_len);
      once = subst (AllPairs (λ (a b : Sig). a ≢ b)) (sym e) (all_pairs_push (λ (a b : Sig). a ≢ b) sigs sig kept.once (λ k d lt same. fresh (subst (Contains sigs) same (Contains-get_or sigs k d lt))));
      marked = λ s. (
        λ h. subst (λ (ss : List Sig). Contains ss s) (sym e) (elim (cases_eq s.0 sig.0) [
          | inl eq ↦ subst (Contains (sigs ++ sig ∷ [])) (same_sig sig s (sym eq)) (Contains-push sigs sig)
          | inr other ↦ Contains-append_left sigs (sig ∷ []) s ((kept.marked s).0 (sym (there s other) ∙ h))
        ]),
        λ h. elim (cases_eq s.0 sig.0) [
          | inl eq ↦ ap (is_marked marked) eq ∙ here
          | inr other ↦
              elim (Contains-push_cases sigs sig s (subst (λ (ss : List Sig). Contains ss s) e h)) [
                | inl before ↦ there s other ∙ (kept.marked s).1 before
                | inr eq ↦ absurd (other (ap (λ (x : Sig). x.0) (sym eq)))
              ]
        ],
      );
    }

-- ---- a dump, by what is seen of it

pub sees_within : (cycles : ℕ) (sigs : List Sig) (cells : List Tri) (r : Recording) (i : ℕ) → record { cycles = cycles; rows = rows_of cycles sigs cells } ≡ r → i < length r.rows → i < length sigs
sees_within cycles sigs cells r i is lt = subst (λ n. i < n) (ap (λ (x : Recording). length x.rows) (sym is) ∙ length-rows_of cycles sigs cells) lt

pub sees_row : (cycles : ℕ) (sigs : List Sig) (cells : List Tri) (r : Recording) (i : ℕ) (d : Sig) → record { cycles = cycles; rows = rows_of cycles sigs cells } ≡ r → i < length r.rows
    → slice_get r.rows i ≡ Some (row_of (get_or sigs i d) (take cycles (drop (i * cycles) cells)))
sees_row cycles sigs cells r i d is lt = ap (λ (x : Recording). slice_get x.rows i) (sym is) ∙ row_at cycles sigs cells i d (sees_within cycles sigs cells r i is lt)

pub sees_mark : (cycles : ℕ) (sigs : List Sig) (cells : List Tri) (marks : List Bool) (r : Recording) (sig : Sig) (answer : Bool) → record { cycles = cycles; rows = rows_of cycles sigs cells } ≡ r → IsKept cycles sigs cells marks
    → answer ≡ is_marked marks sig.0 → IsTrue answer ↔ Contains (recorded r.rows) sig
sees_mark cycles sigs cells marks r sig answer is kept e =
    let same : sigs ≡ recorded r.rows = sym (recorded-rows_of cycles sigs cells) ∙ ap (λ (x : Recording). recorded x.rows) is in
    (λ h. subst (λ (ss : List Sig). Contains ss sig) same ((kept.marked sig).0 (sym e ∙ h)), λ h. e ∙ (kept.marked sig).1 (subst (λ (ss : List Sig). Contains ss sig) (sym same) h))

pub sees_fresh : (cycles : ℕ) (sigs : List Sig) (cells : List Tri) (r : Recording) (sig : Sig) → record { cycles = cycles; rows = rows_of cycles sigs cells } ≡ r → (Contains (recorded r.rows) sig → ⊥) → Contains sigs sig → ⊥
sees_fresh cycles sigs cells r sig is fresh h =
    fresh (subst (λ (ss : List Sig). Contains ss sig) (sym (recorded-rows_of cycles sigs cells) ∙ ap (λ (x : Recording). recorded x.rows) is) h)

-- what a push leaves that is not refused
pub pushed : {T E X : Type 0} (r : Result T E) (old new : X) (x : X) → IsOk r → x ≡ cond (is_ok r) new old → x ≡ new
pushed (Ok v) old new x ok e = e
pushed (Err v) old new x ok e = cc
