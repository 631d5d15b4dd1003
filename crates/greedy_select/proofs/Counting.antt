-- How many flip-flop cells are known: the same literals have one count.
use Rattle.std.proofs.Common.{mul-le-mul, ℕ, ◌≡◌, ◌*◌, ◌≤◌, Bool, true, false, cond, List, length, arith, inl, inr, refl, sym, subst}
use Rattle.std.specs.List.{count_by, range_with_len}
use Rattle.std.proofs.lemmas.Bool.{or_cases, or_left, or_right}
use Rattle.std.proofs.lemmas.List.Sums.{count_by-le-length, length-filter, sum_by-le-sum_by}
use Rattle.std.proofs.lemmas.List.FromFn.{length-map-range_with_len}
use Rattle.sr_model.specs.declared.cells.Sig.{Sig}
use Rattle.sr_model.specs.declared.cells.Cell.{Cell}
use Rattle.sr_model.specs.declared.cells.Lit.{Lit}
use Rattle.sr_model.specs.Netlist.{Driver, Valuation, cell_at}
use Rattle.sr_model.specs.Closure.{IsWithin, lit, passing}
use Rattle.netlist.specs.Circuit.{Circuit}
use Rattle.netlist.specs.Wiring.{driver_at, flip_flops, is_flip_flop, signals_below}
use Rattle.known_planes.specs.Counts.{cells_where, is_known, known_count}
use Rattle.greedy_select.specs.Picks.{AreKnown}

-- more literals have no lower count
pub count-more : (c : Circuit) (cycles : ℕ) (few many : Lit → Bool) → IsWithin (passing few) (passing many) → known_count c cycles few ≤ known_count c cycles many
count-more c cycles few many within =
    sum_by-le-sum_by (cells_where cycles (is_known few)) (cells_where cycles (is_known many)) (flip_flops c.drivers)
    (λ s. sum_by-le-sum_by (λ cycle. cond (is_known few (cell_at cycle s)) 1 0) (λ cycle. cond (is_known many (cell_at cycle s)) 1 0) (range_with_len 0 cycles) (λ cycle. one (is_known few (cell_at cycle s)) (is_known many (cell_at cycle s)) (known (cell_at cycle s))))
  where
    one : (a b : Bool) → (a ≡ true → b ≡ true) → cond a 1 0 ≤ cond b 1 0
    one true b so = subst (λ x. 1 ≤ cond x 1 0) (sym (so refl)) (omega arith)
    one false b so = omega arith

    known : (cell : Cell) → is_known few cell ≡ true → is_known many cell ≡ true
    known cell holds =
        elim (or_cases (few (lit cell false)) (few (lit cell true)) holds) [
          | inl zero ↦ or_left (many (lit cell false)) (many (lit cell true)) (within (lit cell false) zero)
          | inr one ↦ or_right (many (lit cell false)) (many (lit cell true)) (within (lit cell true) one)
        ]

-- one count is known from a trace
pub one-count : (c : Circuit) (cycles : ℕ) (v : Valuation) (sigs : List Sig) (a b : ℕ) → AreKnown c cycles v sigs a → AreKnown c cycles v sigs b → a ≡ b
one-count c cycles v sigs a b first second =
    let low : known_count c cycles first.known ≤ known_count c cycles second.known = count-more c cycles first.known second.known (λ l h. second.is_known.1 l (first.is_known.0 l h)) in
    let high : known_count c cycles second.known ≤ known_count c cycles first.known = count-more c cycles second.known first.known (λ l h. first.is_known.1 l (second.is_known.0 l h)) in
    omega (arith, first.count_is, second.count_is, low, high)

-- there are no more flip-flops than signals
pub few-flip_flops : (drivers : List Driver) → length (flip_flops drivers) ≤ length drivers
few-flip_flops drivers =
    let count : length (flip_flops drivers) ≡ count_by (λ s. is_flip_flop (driver_at drivers s.0)) (signals_below (length drivers)) = length-filter (λ s. is_flip_flop (driver_at drivers s.0)) (signals_below (length drivers)) in
    let few : count_by (λ s. is_flip_flop (driver_at drivers s.0)) (signals_below (length drivers)) ≤ length (signals_below (length drivers)) = count_by-le-length (λ s. is_flip_flop (driver_at drivers s.0)) (signals_below (length drivers)) in
    let all : length (signals_below (length drivers)) ≡ length drivers = length-map-range_with_len (λ s. record { 0 = s }) 0 (length drivers) in
    omega (arith, count, few, all)

-- and so they have few cells
pub few-cells : (drivers : List Driver) (cycles traces : ℕ) → length drivers ≤ 65536 → cycles ≤ 8192 → traces ≤ length (flip_flops drivers) → traces * cycles ≤ 536870912
few-cells drivers cycles traces few short within = mul-le-mul {n₁ = traces} {m₁ = cycles} {n₂ = 65536} {m₂ = 8192} (omega (arith, within, few-flip_flops drivers, few)) short
