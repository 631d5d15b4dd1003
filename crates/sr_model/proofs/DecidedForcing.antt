-- What a test's literals force is decided: at an instance by the rows on its cells, and in a netlist place by place.
use Rattle.std.proofs.Common.{◌≡◌, ℕ, ◌<◌, Bool, true, List, length, map, Option, Some, None, arith, inl, inr, sym, subst, refl, ap, ◌∙◌, slice_index_or}
use Rattle.std.specs.List.{Contains, All, filter}
use Rattle.std.proofs.lemmas.Bool.{cases_lt, true≢false}
use Rattle.std.proofs.lemmas.List.{get_or_past}
use Rattle.std.proofs.lemmas.List.Elements.{All-contains}
use Rattle.sr_model.specs.declared.cells.Cell.{Cell}
use Rattle.sr_model.specs.declared.cells.Lit.{Lit}
use Rattle.sr_model.specs.declared.cells.Place.{Place}
use Rattle.sr_model.specs.Gate.{value}
use Rattle.sr_model.specs.Netlist.{cell_eq, Input, Driven, Unrolled, Instance, instance_at, cells_of, Valuation, IsRow, Has}
use Rattle.sr_model.specs.Closure.{Forces, ForcesAt, ForcesSomewhere, passing, lit}
use Rattle.sr_model.proofs.lemmas.Members.{Contains-here, Contains-there, map-agree, All-from_Contains, Contains-map, filter-member, filter-passes, filter-has, map-member}
use Rattle.sr_model.proofs.Rows.{cell_eq-itself, cell_cases}
use Rattle.sr_model.proofs.lemmas.Instances.{Stands, stands}
use Rattle.sr_model.proofs.Decided.{Decided, decided_both, decided_then, decided_not, decided_as, decided_bit, decided_some, decided_all, decided_below, decided_valuation}

decided_cell : (a b : Cell) → Decided (a ≡ b)
decided_cell a b = elim (cell_cases a b) [ inl e ↦ inl e | inr apart ↦ inr (λ e. true≢false (sym (cell_eq-itself a) ∙ ap (cell_eq a) e ∙ apart)) ]

decided_member : (cells : List Cell) (c : Cell) → Decided (Contains cells c)
decided_member cells c =
    decided_as ((d : Cell) × Contains cells d × (d ≡ c)) (Contains cells c) (λ x. subst (Contains cells) x.2 x.1) (λ h. (c, h, refl))
    (decided_some Cell (λ d. d ≡ c) (λ d. decided_cell d c) cells)

-- w has each bit of v at the instance's cells whose literal is known
abbrev KeepsAt : (Lit → Bool) → Valuation → Valuation → Cell → Type 0
KeepsAt known v w c = known (lit c (v c)) ≡ true → w c ≡ v c

abbrev KeepsOn : (Lit → Bool) → Instance → Valuation → Valuation → Type 0
KeepsOn known i v w = All (KeepsAt known v w) (cells_of i)

-- w is a row that keeps what is known of v, and has not the literal
record Escapes (known : Lit → Bool) (i : Instance) (l : Lit) (v w : Valuation) : Type 0 where
  row : IsRow i w
  keeps : KeepsOn known i v w
  differs : Has w l → ⊥

-- v is a row, and each row that keeps what is known of it has the literal
record Settles (known : Lit → Bool) (i : Instance) (l : Lit) (v : Valuation) : Type 0 where
  row : IsRow i v
  no_escape : (w : Valuation) × Escapes known i l v w → ⊥

abbrev Same : Instance → Valuation → Valuation → Type 0
Same i v w = (c : Cell) → Contains (cells_of i) c → v c ≡ w c

module _ (known : Lit → Bool) (i : Instance) (l : Lit) where
  same-row : (v w : Valuation) → Same i v w → IsRow i v → IsRow i w
  same-row v w same row =
      sym (same i.target (Contains-here i.target i.pins)) ∙ row ∙ ap (value i.kind) (map-agree v w i.pins (λ c h. same c (Contains-there i.target i.pins c h)))

  decided_keeps : (v w : Valuation) → Decided (KeepsOn known i v w)
  decided_keeps v w =
      decided_all Cell (KeepsAt known v w)
      (λ c. decided_then (known (lit c (v c)) ≡ true) (w c ≡ v c) (decided_bit (known (lit c (v c))) true) (decided_bit (w c) (v c))) (cells_of i)

  keeps-from : (v w x : Valuation) → Same i v w → KeepsOn known i w x → KeepsOn known i v x
  keeps-from v w x same keeps =
      All-from_Contains (KeepsAt known v x) (cells_of i) (λ c h is_known.
      let e : v c ≡ w c = same c h in
      All-contains (KeepsAt known w x) (cells_of i) c keeps h (subst (λ b. known (lit c b) ≡ true) e is_known) ∙ sym e)

  keeps-to : (v w x : Valuation) → Same i w x → KeepsOn known i v w → KeepsOn known i v x
  keeps-to v w x same keeps =
      All-from_Contains (KeepsAt known v x) (cells_of i) (λ c h is_known. sym (same c h) ∙ All-contains (KeepsAt known v w) (cells_of i) c keeps h is_known)

  module _ (on_cells : Contains (cells_of i) l.cell) where
    decided_escape : (v : Valuation) → Decided ((w : Valuation) × Escapes known i l v w)
    decided_escape v =
        decided_valuation (cells_of i) (Escapes known i l v)
        (λ w. decided_as (IsRow i w × (KeepsOn known i v w × (Has w l → ⊥))) (Escapes known i l v w)
        (λ x. record { row = x.0; keeps = x.1.0; differs = x.1.1 }) (λ x. (x.row, (x.keeps, x.differs)))
        (decided_both (IsRow i w) (KeepsOn known i v w × (Has w l → ⊥)) (decided_bit (w i.target) (value i.kind (map w i.pins)))
        (decided_both (KeepsOn known i v w) (Has w l → ⊥) (decided_keeps v w) (decided_not (Has w l) (decided_bit (w l.cell) l.bit)))))
        (λ w x same escapes. record {
          row = same-row w x same escapes.row;
          keeps = keeps-to v w x same escapes.keeps;
          differs = λ has. escapes.differs (same l.cell on_cells ∙ has);
        })

    decided_settling : Decided ((v : Valuation) × Settles known i l v)
    decided_settling =
        decided_valuation (cells_of i) (Settles known i l)
        (λ v. decided_as (IsRow i v × ((w : Valuation) × Escapes known i l v w → ⊥)) (Settles known i l v)
        (λ x. record { row = x.0; no_escape = x.1 }) (λ x. (x.row, x.no_escape))
        (decided_both (IsRow i v) ((w : Valuation) × Escapes known i l v w → ⊥) (decided_bit (v i.target) (value i.kind (map v i.pins)))
        (decided_not ((w : Valuation) × Escapes known i l v w) (decided_escape v))))
        (λ v w same settles. record {
          row = same-row v w same settles.row;
          no_escape = λ x. settles.no_escape
              (x.0, record { row = x.1.row; keeps = keeps-from v w x.0 same x.1.keeps; differs = x.1.differs });
        })

    -- what is known of a valuation on the instance's cells
    part_of : Valuation → List Lit
    part_of v = map (λ c. lit c (v c)) (filter (λ c. known (lit c (v c))) (cells_of i))

    each_part : (v : Valuation) (P : Lit → Type 0) → ((c : Cell) → Contains (cells_of i) c → known (lit c (v c)) ≡ true → P (lit c (v c))) → All P (part_of v)
    unfolding part_of
    each_part v P holds =
        All-from_Contains P (part_of v) (λ x h.
        let from = map-member (λ c. lit c (v c)) (filter (λ c. known (lit c (v c))) (cells_of i)) x h in
        subst P from.2
        (holds from.0 (filter-member (λ c. known (lit c (v c))) (cells_of i) from.0 from.1) (filter-passes (λ c. known (lit c (v c))) (cells_of i) from.0 from.1)))

    forces-from : (v : Valuation) → Settles known i l v → Forces i (passing known) l
    unfolding part_of
    forces-from v settles = record {
      on_cells = on_cells;
      part = part_of v;
      part_known = each_part v (passing known) (λ c h is_known. is_known);
      part_on_cells = each_part v (λ x. Contains (cells_of i) x.cell) (λ c h is_known. h);
      row = v;
      is_row = settles.row;
      row_agrees = each_part v (Has v) (λ c h is_known. refl);
      forced = λ w row agrees. elim (decided_bit (w l.cell) l.bit) [
        | inl has ↦ has
        | inr differs ↦ absurd (settles.no_escape (
          w,
          record {
            row = row;
            keeps = All-from_Contains (KeepsAt known v w) (cells_of i) (λ c h is_known.
                All-contains (Has w) (part_of v) (lit c (v c)) agrees
                (Contains-map (λ d. lit d (v d)) (filter (λ d. known (lit d (v d))) (cells_of i)) c (filter-has (λ d. known (lit d (v d))) (cells_of i) c h is_known)));
            differs = differs;
          },
        ))
      ];
    }

    settles-from : (f : Forces i (passing known) l) → Settles known i l f.row
    settles-from f = record {
      row = f.is_row;
      no_escape = λ x. x.1.differs (f.forced x.0 x.1.row (All-from_Contains (Has x.0) f.part (λ y h.
          let has : f.row y.cell ≡ y.bit = All-contains (Has f.row) f.part y f.row_agrees h in
          All-contains (KeepsAt known f.row x.0) (cells_of i) y.cell x.1.keeps (All-contains (λ z. Contains (cells_of i) z.cell) f.part y f.part_on_cells h)
          (subst (λ b. known (lit y.cell b) ≡ true) (sym has) (All-contains (passing known) f.part y f.part_known h))
          ∙ has)));
    }

  pub decided_forces : Decided (Forces i (passing known) l)
  decided_forces =
      elim (decided_member (cells_of i) l.cell) [
        | inr apart ↦ inr (λ f. apart f.on_cells)
        | inl on_cells ↦ decided_as ((v : Valuation) × Settles known i l v) (Forces i (passing known) l)
            (λ x. forces-from on_cells x.0 x.1) (λ f. (f.row, settles-from on_cells f)) (decided_settling on_cells)
      ]

abbrev pub place : ℕ → ℕ → Place
place cycle target = record { cycle = cycle; target = record { 0 = target } }

-- an instance stands in some cycle, at a signal of the netlist
pub place_within : (u : Unrolled) (p : Place) (i : Instance) → instance_at u p ≡ Some i → (p.cycle < u.cycles) × (p.target.0 < length u.drivers)
place_within u p i is =
    let s : Stands u.cycles (slice_index_or u.drivers p.target.0 Input) p i = stands u p i is in (
      omega (arith, s.in_time),
      elim (cases_lt p.target.0 (length u.drivers)) [
        | inl within ↦ within
        | inr past ↦ let e : Input ≡ Driven s.kind s.pins = sym (get_or_past u.drivers p.target.0 Input past) ∙ s.driver in absurd (cc)
      ],
    )

module _ (u : Unrolled) (known : Lit → Bool) (l : Lit) where
  pub decided_by : (p : Place) (o : Option Instance) → instance_at u p ≡ o → Decided (ForcesAt u (passing known) p l)
  decided_by p None is = inr (λ f. let e : Some f.instance ≡ None = sym f.stands ∙ is in absurd (cc))
  decided_by p (Some i) is =
      decided_as (Forces i (passing known) l) (ForcesAt u (passing known) p l)
      (λ f. record { instance = i; stands = is; forces = f })
      (λ f. let e : Some f.instance ≡ Some i = sym f.stands ∙ is in let same : f.instance ≡ i = cc in subst (λ j. Forces j (passing known) l) same f.forces)
      (decided_forces known i l)

  abbrev pub ForcesIn : ℕ → Type 0
  ForcesIn cycle = (target : ℕ) × (target < length u.drivers) × ForcesAt u (passing known) (place cycle target) l

  pub decided_somewhere : Decided (ForcesSomewhere u (passing known) l)
  decided_somewhere =
      decided_as ((cycle : ℕ) × (cycle < u.cycles) × ForcesIn cycle) (ForcesSomewhere u (passing known) l)
      (λ x. (place x.0 x.2.0, x.2.2))
      (λ x. let within = place_within u x.0 x.1.instance x.1.stands in (x.0.cycle, within.0, (x.0.target.0, within.1, x.1)))
      (decided_below ForcesIn
      (λ cycle. decided_below (λ target. ForcesAt u (passing known) (place cycle target) l)
      (λ target. decided_by (place cycle target) (instance_at u (place cycle target)) refl) (length u.drivers)) u.cycles)
