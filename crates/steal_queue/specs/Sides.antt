-- What contracts see of a queue and of its sides.
use Rattle.std.specs.Prelude.{ℕ, zero, suc, ◌≡◌, ◌+◌, ◌<◌, ◌≤◌, ◌==◌, cond, nat_lt, Bool, true, false, List, [], ◌∷◌, ◌++◌, length, Option, Some, None, ⊤}
use Rattle.std.specs.List.{All, sum_by, count_by}
use Rattle.atomic_table.specs.Seated.{TableId}
use Rattle.steal_queue.specs.declared.rule.Drawn.{Drawn}

-- which deal it is, and how many numbers it deals
pub record Deal : Type 0 where
  pub table_id : TableId
  pub chunks : ℕ

-- a queue: its deal, and how many sides draw from it, the dealer and the thieves
pub record Dealt : Type 0 where
  pub deal : Deal
  pub sides : ℕ

-- a dealer or a thief: the deal that it draws from, none once that is gathered; the numbers it took, in order; and whether it found the queue empty
pub record Side : Type 0 where
  pub deal : Option Deal
  pub took : List ℕ
  pub is_done : Bool

-- a side at the start of a deal
abbrev pub new_side : Deal → Side
new_side deal = record { deal = Some deal; took = []; is_done = false }

-- a side that found the queue empty
abbrev pub done_side : Side → Side
done_side s = record { deal = s.deal; took = s.took; is_done = true }

-- a side whose deal is gathered
abbrev pub gathered : Side → Side
gathered s = record { deal = None; took = s.took; is_done = s.is_done }

-- a side takes the number x: of those below `chunks`, and past all that it took before
pub record Takes (chunks x : ℕ) (before after : Side) : Type 0 where
  pub below : x < chunks
  pub later : All (λ y. y < x) before.took
  pub is : after ≡ record { deal = before.deal; took = before.took ++ x ∷ []; is_done = before.is_done }
  pub few : length after.took ≤ chunks

-- how often the number x stands in the lists of a dealer and of thieves
abbrev pub times_taken : ℕ → Side → List Side → ℕ
times_taken x dealer thieves = count_by (λ y. y == x) dealer.took + sum_by (λ s. count_by (λ y. y == x) s.took) thieves

-- the numbers below n: each once, and no other
abbrev pub once_below : ℕ → ℕ → ℕ
once_below n x = cond (nat_lt x n) 1 0

-- g of each number in these lists, added up
abbrev pub sum_taken : (ℕ → ℕ) → Side → List Side → ℕ
sum_taken g dealer thieves = sum_by g dealer.took + sum_by (λ s. sum_by g s.took) thieves

-- ---- how a side is kept

abbrev pub one_if : Bool → ℕ
one_if true = 1
one_if false = 0

-- what the seat of a side knows
abbrev pub one_side : List ℕ → Bool → Drawn
one_side took is_done = record { sides = 1; done = one_if is_done; numbers = took }

-- what a seat at a table says of the deal: one that stands for no side has none
abbrev pub deal_at : TableId → ℕ → ℕ → Option Deal
deal_at table_id chunks zero = None
deal_at table_id chunks (suc n) = Some (record { table_id = table_id; chunks = chunks })

-- a seat that stands for a side knows what it took
abbrev pub IsSeated : ℕ → Drawn → List ℕ → Bool → Type 0
IsSeated zero v took is_done = ⊤
IsSeated (suc n) v took is_done = v ≡ one_side took is_done
