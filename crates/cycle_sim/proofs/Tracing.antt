-- Rows of a dump with the bits of signals, one after another.
use Rattle.std.proofs.Common.{ℕ, ◌≡◌, ◌<◌, ◌+◌, Bool, Option, Some, List, [], ◌∷◌, ◌++◌, length, map, get_or, take, arith, refl, sym, ap, subst, ◌∙◌}
use Rattle.std.specs.List.{AllPairs, Contains, range_with_len}
use Rattle.std.proofs.lemmas.List.{map-append, take_more, length-map, get_or_default, get_or-take, length-take-le}
use Rattle.std.proofs.lemmas.List.FromFn.{map-range_with_len_more, length-map-range_with_len, get_or-map-range_with_len, fill_by_all}
use Rattle.sr_model.specs.declared.cells.Sig.{Sig}
use Rattle.sr_model.specs.Netlist.{Valuation, cell_at}
use Rattle.sr_model.specs.Dump.{Row}
use Rattle.dump_reader.specs.declared.dump.Tri.{Tri}
use Rattle.dump_reader.specs.Recording.{tri_bit, row_of, recorded}
use Rattle.cycle_sim.specs.Simulation.{traced_row, traced_rows}

-- one cell more
pub cells-more : (f : ℕ → Option Bool) (cells new : List Tri) (n : ℕ) (x : Tri) → new ≡ cells ++ x ∷ [] → tri_bit x ≡ f n → map tri_bit cells ≡ map f (range_with_len 0 n) → map tri_bit new ≡ map f (range_with_len 0 (n + 1))
cells-more f cells new n x is one before =
    ap (map tri_bit) is ∙ map-append tri_bit cells (x ∷ []) ∙ ap (λ xs. xs ++ tri_bit x ∷ []) before ∙ ap (λ b. map f (range_with_len 0 n) ++ b ∷ []) one ∙ sym (map-range_with_len_more f 0 n n (omega arith))

-- there are as many cells as cycles
pub cells-size : (f : ℕ → Option Bool) (cells : List Tri) (n : ℕ) → map tri_bit cells ≡ map f (range_with_len 0 n) → length cells ≡ n
cells-size f cells n is = sym (length-map cells tri_bit) ∙ ap length is ∙ length-map-range_with_len f 0 n

-- the cells of a signal are its row
pub row-is : (f : ℕ → Bool) (v : Valuation) (cells : List Tri) (n : ℕ) (s : Sig) → map tri_bit cells ≡ map (λ cycle. Some (f cycle)) (range_with_len 0 n) → ((cycle : ℕ) → cycle < n → f cycle ≡ v (cell_at cycle s))
    → row_of s cells ≡ traced_row v n s
row-is f v cells n s is same =
    ap (λ bits. record { sig = s; bits = bits })
    (fill_by_all (λ cycle. Some (v (cell_at cycle s))) (map tri_bit cells) n (Some (v (cell_at 0 s))) (ap length is ∙ length-map-range_with_len (λ cycle. Some (f cycle)) 0 n) (λ k h.
    ap (λ xs. get_or xs k (Some (v (cell_at 0 s)))) is ∙ get_or-map-range_with_len (λ cycle. Some (f cycle)) 0 n k k (Some (v (cell_at 0 s))) h (omega arith) ∙ ap Some (same k h)))

-- one row more
pub rows-more : (v : Valuation) (cycles : ℕ) (sigs : List Sig) (i : ℕ) (d : Sig) (old new : List Row) (row : Row) → i < length sigs → new ≡ old ++ row ∷ [] → old ≡ traced_rows v cycles (take i sigs)
    → row ≡ traced_row v cycles (get_or sigs i d) → new ≡ traced_rows v cycles (take (i + 1) sigs)
rows-more v cycles sigs i d old new row within is before one =
    is ∙ ap (λ rows. rows ++ row ∷ []) before ∙ ap (λ r. traced_rows v cycles (take i sigs) ++ r ∷ []) one
    ∙ sym (ap (map (traced_row v cycles)) (take_more sigs i d within) ∙ map-append (traced_row v cycles) (take i sigs) (get_or sigs i d ∷ []))

-- the signals of traced rows
recorded-are : (v : Valuation) (cycles : ℕ) (sigs : List Sig) → recorded (traced_rows v cycles sigs) ≡ sigs
recorded-are v cycles [] = refl
recorded-are v cycles (s ∷ sigs) = ap (λ xs. s ∷ xs) (recorded-are v cycles sigs)

-- no earlier row is of the next signal
pub new-signal : (v : Valuation) (cycles : ℕ) (sigs : List Sig) (i : ℕ) (d : Sig) (rows : List Row) → i < length sigs → AllPairs (λ a b. a ≡ b → ⊥) sigs → rows ≡ traced_rows v cycles (take i sigs)
    → Contains (recorded rows) (get_or sigs i d) → ⊥
new-signal v cycles sigs i d rows within once is h =
    let listed : Contains (take i sigs) (get_or sigs i d) = subst (λ xs. Contains xs (get_or sigs i d)) (ap recorded is ∙ recorded-are v cycles (take i sigs)) h in
    let few : listed.0 < i = subst (λ n. listed.0 < n) (length-take-le i sigs (omega (arith, within))) listed.1 in
    once listed.0 i d few within
    (sym (get_or-take i sigs listed.0 d few) ∙ get_or_default (take i sigs) listed.0 d (get_or sigs i d) listed.1 ∙ listed.2)
