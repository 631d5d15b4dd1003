-- One application of the one-gate rule settles an instance that has no cell with both literals.
use Rattle.std.proofs.Common.{◌≡◌, ◌⊎◌, ◌↔◌, ◌++◌, Bool, true, false, not, List, [], ◌∷◌, map, Some, inl, inr, sym, subst, ap, ◌∙◌}
use Rattle.std.specs.List.{Contains, All, filter}
use Rattle.std.proofs.lemmas.Bool.{cases_Bool, true≢false}
use Rattle.std.proofs.lemmas.List.Elements.{Contains-append_left, Contains-append_right, Contains-append_cases, All-contains, All-cons, All-nil, All-head, All-tail}
use Rattle.sr_model.specs.declared.cells.Cell.{Cell}
use Rattle.sr_model.specs.declared.cells.Lit.{Lit}
use Rattle.sr_model.specs.declared.cells.Place.{Place}
use Rattle.sr_model.specs.Netlist.{Unrolled, Instance, instance_at, cells_of, Valuation, IsRow, Has, Agrees}
use Rattle.sr_model.specs.Closure.{LitSet, Forces, ForcesAt, passing, lit}
use Rattle.sr_model.proofs.lemmas.Members.{All-from_Contains, Contains-map, map-member, filter-member, filter-passes, filter-has}
use Rattle.sr_model.proofs.lemmas.AndRules.{bit_cases}

-- both literals of each cell
abbrev lits_of : List Cell → List Lit
lits_of cs = map (λ c. lit c false) cs ++ map (λ c. lit c true) cs

has-literal : (cs : List Cell) (c : Cell) (bit : Bool) → Contains cs c → Contains (lits_of cs) (lit c bit)
has-literal cs c false h = Contains-append_left (map (λ c. lit c false) cs) (map (λ c. lit c true) cs) (lit c false) (Contains-map (λ c. lit c false) cs c h)
has-literal cs c true h = Contains-append_right (map (λ c. lit c false) cs) (map (λ c. lit c true) cs) (lit c true) (Contains-map (λ c. lit c true) cs c h)

-- the cell of a literal that comes from one of the cells
mapped-cell : (cs : List Cell) (bit : Bool) (l : Lit) → Contains (map (λ c. lit c bit) cs) l → Contains cs l.cell
mapped-cell cs bit l h =
    let found : (c : Cell) × Contains cs c × (lit c bit ≡ l) = map-member (λ c. lit c bit) cs l h in
    subst (Contains cs) (ap (λ (x : Lit). x.cell) found.2) found.1

literal-cell : (cs : List Cell) (l : Lit) → Contains (lits_of cs) l → Contains cs l.cell
literal-cell cs l h =
    elim (Contains-append_cases (map (λ c. lit c false) cs) (map (λ c. lit c true) cs) l h) [
      | inl zero ↦ mapped-cell cs false l zero
      | inr one ↦ mapped-cell cs true l one
    ]

-- a literal and the other one of its cell
both-bits : (P : Bool → Type 0) (bit : Bool) → P bit → P (not bit) → P false × P true
both-bits P false h other = (h, other)
both-bits P true h other = (other, h)

module _ (i : Instance) (known all : Lit → Bool)
    (each : (l : Lit) → Contains (cells_of i) l.cell → (all l ≡ true) ↔ ((known l ≡ true) ⊎ Forces i (passing known) l))
    (one : (c : Cell) → Contains (cells_of i) c → all (lit c false) ≡ true → all (lit c true) ≡ true → ⊥) where
  -- No row that agrees with the part has the literal: the other bit is forced, and the cell has both.
  one_more : (l : Lit) (part : List Lit) → known l ≡ true → Contains (cells_of i) l.cell
      → All (passing known) part → All (λ x. Contains (cells_of i) x.cell) part
      → (v : Valuation) → IsRow i v → Agrees v part
      → ((w : Valuation) → IsRow i w → Agrees w part → Has w l → ⊥) → ⊥
  one_more l part is_known on_cells part_known part_on_cells v is_row agrees none =
      let other : Lit = lit l.cell (not l.bit) in
      let forced_other : Forces i (passing known) other = record {
        on_cells = on_cells;
        part = part;
        part_known = part_known;
        part_on_cells = part_on_cells;
        row = v;
        is_row = is_row;
        row_agrees = agrees;
        forced = λ w w_is_row w_agrees. elim (bit_cases (w l.cell) l.bit) [
          | inl same ↦ absurd (none w w_is_row w_agrees same)
          | inr differs ↦ differs
        ];
      } in
      let both : (all (lit l.cell false) ≡ true) × (all (lit l.cell true) ≡ true) =
      both-bits (λ b. all (lit l.cell b) ≡ true) l.bit ((each l on_cells).1 (inl is_known)) ((each other on_cells).1 (inr forced_other)) in
      one l.cell on_cells both.0 both.1

  -- where there is a row, it cannot be that none agrees with known literals of the cells
  row_agreeing : (start : Valuation) → IsRow i start → (part : List Lit) → All (passing known) part → All (λ x. Contains (cells_of i) x.cell) part
      → ((v : Valuation) → IsRow i v → Agrees v part → ⊥) → ⊥
  row_agreeing start is_row [] part_known part_on_cells none = none start is_row (All-nil (Has start))
  row_agreeing start is_row (l ∷ part) part_known part_on_cells none =
      let rest_known : All (passing known) part = All-tail (passing known) l part part_known in
      let rest_on_cells : All (λ x. Contains (cells_of i) x.cell) part = All-tail (λ x. Contains (cells_of i) x.cell) l part part_on_cells in
      row_agreeing start is_row part rest_known rest_on_cells (λ v v_is_row agrees.
      one_more l part (All-head (passing known) l part part_known) (All-head (λ x. Contains (cells_of i) x.cell) l part part_on_cells)
      rest_known rest_on_cells v v_is_row agrees
      (λ w w_is_row w_agrees has. none w w_is_row (All-cons (Has w) l part has w_agrees)))

  -- the known literals of the cells
  base : List Lit
  base = filter known (lits_of (cells_of i))

  base_known : (l : Lit) → Contains base l → known l ≡ true
  unfolding base
  base_known l h = filter-passes known (lits_of (cells_of i)) l h

  base_on_cells : (l : Lit) → Contains base l → Contains (cells_of i) l.cell
  unfolding base
  base_on_cells l h = literal-cell (cells_of i) l (filter-member known (lits_of (cells_of i)) l h)

  base_has : (l : Lit) → Contains (cells_of i) l.cell → known l ≡ true → Contains base l
  unfolding base
  base_has l on_cells is_known = filter-has known (lits_of (cells_of i)) l (has-literal (cells_of i) l.cell l.bit on_cells) is_known

  -- a row that agrees with the known literals of the cells agrees with what they force, too
  has_all : (v : Valuation) → IsRow i v → Agrees v base → (l : Lit) → Contains (cells_of i) l.cell → all l ≡ true → Has v l
  has_all v is_row agrees l on_cells is =
      elim ((each l on_cells).0 is) [
        | inl is_known ↦ All-contains (Has v) base l agrees (base_has l on_cells is_known)
        | inr f ↦ f.forced v is_row (All-from_Contains (Has v) f.part (λ x h.
            All-contains (Has v) base x agrees (base_has x
            (All-contains (λ y. Contains (cells_of i) y.cell) f.part x f.part_on_cells h)
            (All-contains (passing known) f.part x f.part_known h))))
      ]

  -- what all force is forced by the known literals, if some row agrees with these
  from_known : (l : Lit) → Forces i (passing all) l → (v : Valuation) → IsRow i v → Agrees v base → Forces i (passing known) l
  from_known l f v is_row agrees = record {
    on_cells = f.on_cells;
    part = base;
    part_known = All-from_Contains (passing known) base base_known;
    part_on_cells = All-from_Contains (λ x. Contains (cells_of i) x.cell) base base_on_cells;
    row = v;
    is_row = is_row;
    row_agrees = agrees;
    forced = λ w w_is_row w_agrees. f.forced w w_is_row (All-from_Contains (Has w) f.part (λ x h.
        has_all w w_is_row w_agrees x
        (All-contains (λ y. Contains (cells_of i) y.cell) f.part x f.part_on_cells h)
        (All-contains (passing all) f.part x f.part_known h)));
  }

  -- What is known and what that forces, at an instance with no cell that has both literals, forces nothing more.
  pub settled : (l : Lit) → Forces i (passing all) l → all l ≡ true
  settled l f =
      elim (cases_Bool (all l)) [
        | inl is ↦ is
        | inr new ↦ absurd (row_agreeing f.row f.is_row base
            (All-from_Contains (passing known) base base_known)
            (All-from_Contains (λ x. Contains (cells_of i) x.cell) base base_on_cells)
            (λ v is_row agrees. true≢false (sym ((each l f.on_cells).1 (inr (from_known l f v is_row agrees))) ∙ new)))
      ]

same_instance : (a b : Instance) → Some a ≡ Some b → a ≡ b
same_instance a b e = cc

module _ (u : Unrolled) (p : Place) (i : Instance) (stands : instance_at u p ≡ Some i) where
  -- at a place, what is forced is what the instance that stands there forces
  pub forces_at-instance : (set : LitSet) (l : Lit) → ForcesAt u set p l ↔ Forces i set l
  forces_at-instance set l = (
    λ f. subst (λ j. Forces j set l) (same_instance f.instance i (sym f.stands ∙ stands)) f.forces,
    λ f. record { instance = i; stands = stands; forces = f },
  )

  -- the same at the place of an instance
  pub settled_at : (known all : Lit → Bool)
      → ((l : Lit) → Contains (cells_of i) l.cell → (all l ≡ true) ↔ ((known l ≡ true) ⊎ ForcesAt u (passing known) p l))
      → ((c : Cell) → Contains (cells_of i) c → all (lit c false) ≡ true → all (lit c true) ≡ true → ⊥)
      → (l : Lit) → ForcesAt u (passing all) p l → all l ≡ true
  settled_at known all each one l f =
      let each_here : (m : Lit) → Contains (cells_of i) m.cell → (all m ≡ true) ↔ ((known m ≡ true) ⊎ Forces i (passing known) m) = λ m on_cells. (
        λ is. elim ((each m on_cells).0 is) [ inl is_known ↦ inl is_known | inr g ↦ inr ((forces_at-instance (passing known) m).0 g) ],
        λ h. elim h [ inl is_known ↦ (each m on_cells).1 (inl is_known) | inr g ↦ (each m on_cells).1 (inr ((forces_at-instance (passing known) m).1 g)) ],
      ) in
      settled i known all each_here one l ((forces_at-instance (passing all) l).0 f)
