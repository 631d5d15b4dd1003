-- The records of signals, and the signals that are adjacent to them, one list behind the other.
use Rattle.std.proofs.Common.{ℕ, not, eqb, ◌≡◌, ◌+◌, ◌-◌, ◌≤◌, Bool, true, false, cond, List, [], ◌∷◌, ◌++◌, length, take, drop, get_or, filter, arith, inl, inr, sym, ap, subst, ◌∙◌}
use Rattle.std.proofs.lemmas.Bool.{cases_lt}
use Rattle.std.proofs.lemmas.List.{length-append, take-append-le, length-drop, drop-append-le, get_or_append_left, take_all}
use Rattle.std.proofs.lemmas.List.FromFn.{length-map-range_with_len}
use Rattle.std.proofs.Math.Seq.{get_or-append_seam, drop-append_seam}
use Rattle.std.proofs.lemmas.List.Sums.{length-filter, count_by-le-length}
use Rattle.sr_model.specs.declared.cells.Sig.{Sig}
use Rattle.sr_model.specs.Netlist.{Driver}
use Rattle.netlist.specs.Wiring.{driver_at, is_driven, other_readers, readers, reads, signals_below}
use Rattle.unroll.specs.declared.records.SignalRecord.{SignalRecord}
use Rattle.unroll.specs.Records.{HasShape, IsRecordOf, AreRecordsOf, adjacent_signals}

filtered : {X : Type 0} (p : X → Bool) (xs : List X) → length (filter p xs) ≤ length xs
filtered p xs = subst (λ n. n ≤ length xs) (sym (length-filter p xs)) (count_by-le-length p xs)

own-one : (b : Bool) (s : Sig) → length (cond b (s ∷ []) []) ≤ 1
own-one true s = omega arith
own-one false s = omega arith

-- a signal is adjacent to each signal at most, and to itself
pub few-adjacent : (drivers : List Driver) (s : Sig) → length (adjacent_signals drivers s) ≤ length drivers + 1
few-adjacent drivers s =
    let own : List Sig = cond (is_driven (driver_at drivers s.0)) (s ∷ []) [] in
    let both : length (adjacent_signals drivers s) ≡ length own + length (other_readers drivers s) = length-append own (other_readers drivers s) in
    let others : length (other_readers drivers s) ≤ length (readers drivers s) = filtered (λ t. not (eqb t.0 s.0)) (readers drivers s) in
    let all : length (readers drivers s) ≤ length (signals_below (length drivers)) = filtered (λ t. reads (driver_at drivers t.0) s) (signals_below (length drivers)) in
    let size : length (signals_below (length drivers)) ≡ length drivers = length-map-range_with_len (λ n. record { 0 = n }) 0 (length drivers) in
    omega (arith, both, own-one (is_driven (driver_at drivers s.0)) s, others, all, size)

-- what stands before the end stays where more is added
take-more : {X : Type 0} (xs ys : List X) (start count : ℕ) → start + count ≤ length xs → take count (drop start (xs ++ ys)) ≡ take count (drop start xs)
take-more xs ys start count within =
    ap (take count) (drop-append-le start xs ys (omega (arith, within)))
    ∙ take-append-le count (drop start xs) ys (let size : length (drop start xs) ≡ length xs - start = length-drop start xs in omega (arith, size, within))

record-stays : (drivers : List Driver) (adjacent more : List Sig) (s : Sig) (r : SignalRecord) → IsRecordOf drivers adjacent s r → IsRecordOf drivers (adjacent ++ more) s r
record-stays drivers adjacent more s r is = record {
  shape = is.shape;
  within = omega (arith, is.within, length-append adjacent more);
  part = take-more adjacent more r.start r.count is.within ∙ is.part;
}

-- the next signal's list is added, and its record
pub records-more : (drivers : List Driver) (adjacent : List Sig) (records : List SignalRecord) (r : SignalRecord) (more : List Sig) (s : Sig)
    → AreRecordsOf drivers adjacent records → s.0 ≡ length records → more ≡ adjacent_signals drivers s
    → HasShape r.shape (driver_at drivers s.0) s r.first r.second → r.start ≡ length adjacent → r.count ≡ length more
    → AreRecordsOf drivers (adjacent ++ more) (records ++ r ∷ [])
records-more drivers adjacent records r more s are number is shape start count t d h =
    elim (cases_lt t (length records)) [
      | inl early ↦
          subst (IsRecordOf drivers (adjacent ++ more) (record { 0 = t })) (sym (get_or_append_left records (r ∷ []) d t early))
          (record-stays drivers adjacent more (record { 0 = t }) (get_or records t d) (are t d early))
      | inr late ↦
          let last : t ≡ length records = omega (arith, late, h, length-append records (r ∷ [])) in
          let same : s ≡ record { 0 = t } = ap (λ n. record { 0 = n }) (number ∙ sym last) in
          subst (λ x. IsRecordOf drivers (adjacent ++ more) (record { 0 = t }) x) (sym (ap (λ n. get_or (records ++ r ∷ []) n d) last ∙ get_or-append_seam records r [] d))
          (subst (λ x. IsRecordOf drivers (adjacent ++ more) x r) same (record {
            shape = shape;
            within = omega (arith, start, count, length-append adjacent more);
            part = ap (λ n. take r.count (drop n (adjacent ++ more))) start ∙ ap (take r.count) (drop-append_seam adjacent more)
                ∙ ap (λ n. take n more) count ∙ take_all (length more) more (omega arith) ∙ is;
          }))
    ]
