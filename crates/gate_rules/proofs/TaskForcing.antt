-- What a task forces, by its cells, its places and its turns.
use Rattle.std.proofs.Common.{ℕ, ◌≡◌, ◌^◌, ◌%◌, ◌/◌, ◌<◌, ◌⊎◌, ◌↔◌, Bool, true, false, arith, inl, inr, sym, ap, subst, ◌∙◌}
use Rattle.std.specs.List.{Contains}
use Rattle.std.proofs.lemmas.List.Elements.{All-contains}
use Rattle.sr_model.specs.declared.cells.Cell.{Cell}
use Rattle.sr_model.specs.declared.cells.Lit.{Lit}
use Rattle.sr_model.specs.declared.cells.Place.{Place}
use Rattle.sr_model.specs.Netlist.{cells_of}
use Rattle.sr_model.specs.Closure.{ForcesAt, HasBoth, IsClosed, passing, lit}
use Rattle.sr_model.proofs.lemmas.Members.{All-from_Contains}
use Rattle.unroll.specs.declared.problem.Task.{Task}
use Rattle.unroll.specs.Problem.{Unrolling, unrolled}
use Rattle.unroll.specs.Tasks.{IsTask, IsPlaceOf, IsCellOf, drives_itself, target_of, task_of}
use Rattle.unroll.proofs.lemmas.Words.{alone-only, alone-set}
use Rattle.unroll.proofs.lemmas.Laws.{share_no_cell, each_in_one_task}
use Rattle.gate_rules.specs.Forced.{ForcedIn, ForcedInCycles, IsDone}
use Rattle.gate_rules.proofs.NewLiterals.{forced-in_time}
use Rattle.gate_rules.proofs.SettledOnce.{settled_at}

-- the cell of a forced literal
abbrev pub forced-cell : (u : Unrolling) (t : Task) (known : Lit → Bool) (l : Lit) → ForcedIn u t known l → IsCellOf u t l.cell
forced-cell u t known l f = record { place = f.place; belongs = f.belongs; instance = f.forces.instance; stands = f.forces.stands; has_cell = f.forces.forces.on_cells }

pub forced_on_cells : (u : Unrolling) (t : Task) (known : Lit → Bool) (l : Lit) → ForcedIn u t known l → IsCellOf u t l.cell × (l.cell.cycle < u.cycles)
forced_on_cells u t known l f = (forced-cell u t known l f, forced-in_time u t known l f)

-- where one set has the other's literals on the task's cells, it forces what the other does
module _ (u : Unrolling) (t : Task) (few many : Lit → Bool) (grows : (c : Cell) (bit : Bool) → IsCellOf u t c → few (lit c bit) ≡ true → many (lit c bit) ≡ true) where
  forces_by_cells : (p : Place) → IsPlaceOf u t p → (l : Lit) → ForcesAt (unrolled u) (passing few) p l → ForcesAt (unrolled u) (passing many) p l
  forces_by_cells p of l f = record {
    instance = f.instance;
    stands = f.stands;
    forces = record {
      on_cells = f.forces.on_cells;
      part = f.forces.part;
      part_known = All-from_Contains (passing many) f.forces.part (λ x h.
          grows x.cell x.bit (record {
            place = p;
            belongs = of;
            instance = f.instance;
            stands = f.stands;
            has_cell = All-contains (λ (y : Lit). Contains (cells_of f.instance) y.cell) f.forces.part x f.forces.part_on_cells h;
          }) (All-contains (passing few) f.forces.part x f.forces.part_known h));
      part_on_cells = f.forces.part_on_cells;
      row = f.forces.row;
      is_row = f.forces.is_row;
      row_agrees = f.forces.row_agrees;
      forced = f.forces.forced;
    };
  }

  pub forced_by_cells : (l : Lit) → ForcedIn u t few l → ForcedIn u t many l
  forced_by_cells l f = record { place = f.place; belongs = f.belongs; forces = forces_by_cells f.place f.belongs l f.forces }

  pub forced_in_cycles_by_cells : (mask : ℕ) (l : Lit) → ForcedInCycles u t mask few l → ForcedInCycles u t mask many l
  forced_in_cycles_by_cells mask l f = record { place = f.place; belongs = f.belongs; in_mask = f.in_mask; forces = forces_by_cells f.place f.belongs l f.forces }

-- a task's place in a cycle is the only one with the bit of the cycle
one-place : (u : Unrolling) (t : Task) (p q : Place) → IsPlaceOf u t p → IsPlaceOf u t q → q.cycle % 64 ≡ p.cycle % 64 → q ≡ p
one-place u t p q of_p of_q bit =
    ap (λ n. record { cycle = n; target = q.target }) (whole q.cycle p.cycle (sym of_q.1 ∙ of_p.1) bit) ∙ ap (λ s. record { cycle = p.cycle; target = s }) (sym of_q.0 ∙ of_p.0)
  where
    whole : (m n : ℕ) → m / 64 ≡ n / 64 → m % 64 ≡ n % 64 → m ≡ n
    whole m n over rest = omega (arith, over, rest)

pub forced_at_place : (u : Unrolling) (t : Task) (p : Place) (known : Lit → Bool) (l : Lit) → IsPlaceOf u t p
    → ForcedInCycles u t (2 ^ (p.cycle % 64)) known l ↔ ForcesAt (unrolled u) (passing known) p l
forced_at_place u t p known l of = (
  λ f. subst (λ (q : Place). ForcesAt (unrolled u) (passing known) q l) (one-place u t p f.place of f.belongs (alone-only (p.cycle % 64) (f.place.cycle % 64) f.in_mask)) f.forces,
  λ f. record { place = p; belongs = of; in_mask = alone-set (p.cycle % 64); forces = f },
)

pub closed_where_done : (u : Unrolling) (known : Lit → Bool) → IsClosed (unrolled u) (passing known) ↔ ((t : Task) → IsTask u t → IsDone u t known)
closed_where_done u known = (
  λ closed t is l f. closed l (f.place, f.forces),
  λ done l (p, f).
      let one = each_in_one_task u p f.instance f.stands in
      done (task_of u p) one.0 l (record { place = p; belongs = one.1; forces = f }),
)

pub done_once : (u : Unrolling) (t : Task) (known all : Lit → Bool) → drives_itself u (target_of u t) ≡ false
    → ((l : Lit) → IsCellOf u t l.cell → (all l ≡ true) ↔ ((known l ≡ true) ⊎ ForcedIn u t known l))
    → ((c : Cell) → IsCellOf u t c → HasBoth (passing all) c → ⊥) → IsDone u t all
done_once u t known all apart each one l f =
    settled_at (unrolled u) f.place f.forces.instance f.forces.stands known all
    (λ m on_cells. (
      λ is_all. elim ((each m (here m.cell on_cells)).0 is_all) [
        | inl was ↦ inl was
        | inr g ↦ inr (subst (λ (p : Place). ForcesAt (unrolled u) (passing known) p m) (share_no_cell u t m.cell apart (forced-cell u t known m g) (here m.cell on_cells)) g.forces)
      ],
      λ h. elim h [
        | inl was ↦ (each m (here m.cell on_cells)).1 (inl was)
        | inr g ↦ (each m (here m.cell on_cells)).1 (inr (record { place = f.place; belongs = f.belongs; forces = g }))
      ],
    ))
    (λ c on_cells zero is_one. one c (here c on_cells) (zero, is_one)) l f.forces
  where
    here : (c : Cell) → Contains (cells_of f.forces.instance) c → IsCellOf u t c
    here c h = record { place = f.place; belongs = f.belongs; instance = f.forces.instance; stands = f.forces.stands; has_cell = h }
