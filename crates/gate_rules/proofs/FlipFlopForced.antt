-- What a flip-flop forces: an instance has one bit for its data pin's cell and its own cell one cycle later, and so the task of a chunk.
use Rattle.std.proofs.Common.{ℕ, ◌≡◌, ◌+◌, ◌/◌, ◌%◌, ◌<◌, ◌⊎◌, ◌↔◌, Bool, true, false, List, [], ◌∷◌, length, get_or, arith, inl, inr, refl, sym, ap, ◌∙◌, subst}
use Rattle.std.specs.List.{Contains}
use Rattle.std.proofs.lemmas.Bool.{true≢false}
use Rattle.std.proofs.lemmas.List.Elements.{All-get_or}
use Rattle.sr_model.specs.declared.gates.Kind.{Kind}
use Rattle.sr_model.specs.declared.gates.Kind.TheVariants.{Dff}
use Rattle.sr_model.specs.declared.cells.Sig.{Sig}
use Rattle.sr_model.specs.declared.cells.Cell.{Cell}
use Rattle.sr_model.specs.declared.cells.Lit.{Lit}
use Rattle.sr_model.specs.declared.cells.Place.{Place}
use Rattle.sr_model.specs.AndLike.{IsAndLike}
use Rattle.sr_model.specs.Gate.{IsPinCount}
use Rattle.sr_model.specs.Netlist.{Driver, Input, Driven, Instance, cell_at, delay}
use Rattle.sr_model.specs.Closure.{Forces, passing, lit}
use Rattle.sr_model.proofs.lemmas.Instances.{Stands, stands, stands-at, instance_of}
use Rattle.sr_model.proofs.lemmas.Laws.{flip_flop-dff, has_its_family}
use Rattle.sr_model.proofs.lemmas.Members.{not_in_nil, Contains-here, Contains-cases}
use Rattle.sr_model.proofs.lemmas.Cells.{cell_eq, cell_eq-itself}
use Rattle.sr_model.proofs.lemmas.AndRules.{target_t-exact, target_other-exact, pin_p-exact, pin_other-exact}
use Rattle.sr_model.proofs.lemmas.ParityRules.{dff_apart}
use Rattle.netlist.specs.Wiring.{driver_at, is_flip_flop, HasPinCount}
use Rattle.unroll.specs.Bits.{is_set}
use Rattle.unroll.specs.Problem.{Unrolling, unrolled, IsProblem, signals_in, chunks_in}
use Rattle.unroll.specs.Tasks.{task_at}
use Rattle.unroll.proofs.lemmas.Laws.{block-sig, block-chunk}
use Rattle.gate_rules.specs.Forced.{ForcedInCycles}
use Rattle.gate_rules.specs.FlipFlopBits.{data_pin}

one-pin : (pins : List Sig) → length pins ≡ 1 → pins ≡ get_or pins 0 (record { 0 = 0 }) ∷ []
one-pin [] one = absurd (omega arith)
one-pin (pin ∷ []) one = refl
one-pin (pin ∷ next ∷ pins) one = absurd (omega arith)

-- a flip-flop's driver has one pin
pub flip_flop-driver : (d : Driver) → is_flip_flop d ≡ true → HasPinCount d → d ≡ Driven Dff (data_pin d ∷ [])
flip_flop-driver Input e h = absurd (true≢false (sym e))
flip_flop-driver (Driven kind pins) e h =
    let is : kind ≡ Dff = flip_flop-dff kind e in
    ap (λ k. Driven k pins) is ∙ ap (Driven Dff) (one-pin pins (subst (λ k. IsPinCount k (length pins)) is h))

-- so has that of a problem
pub problem-driver : (u : Unrolling) → IsProblem u → (target : Sig) → target.0 < signals_in u → is_flip_flop (driver_at u.circuit.drivers target.0) ≡ true
    → driver_at u.circuit.drivers target.0 ≡ Driven Dff (data_pin (driver_at u.circuit.drivers target.0) ∷ [])
problem-driver u is target within e =
    flip_flop-driver (driver_at u.circuit.drivers target.0) e (All-get_or HasPinCount u.circuit.drivers target.0 Input within is.is_circuit.pin_counts)

module _ (pin : Sig) (p : Place) (known : Lit → Bool) where
  and_like : IsAndLike true true (instance_of Dff (pin ∷ []) p)
  and_like = has_its_family (instance_of Dff (pin ∷ []) p) refl

  lone : (c : Cell) → Contains (cell_at p.cycle pin ∷ []) c → cell_at p.cycle pin ≡ c
  lone c h = elim (Contains-cases (cell_at p.cycle pin) [] c h) [ inl e ↦ e | inr none ↦ absurd (not_in_nil c none) ]

  -- the literal is known of one of the two cells
  abbrev pub KnownOfEither : Bool → Type 0
  KnownOfEither bit = (known (lit (cell_at p.cycle pin) bit) ≡ true) ⊎ (known (lit (cell_at (p.cycle + 1) p.target) bit) ≡ true)

  after-forced : (bit : Bool) → Forces (instance_of Dff (pin ∷ []) p) (passing known) (lit (cell_at (p.cycle + 1) p.target) bit) ↔ KnownOfEither bit
  after-forced true =
      let exact = target_t-exact true true (instance_of Dff (pin ∷ []) p) and_like known (dff_apart (pin ∷ []) p) in (
        λ f. elim (exact.0 f) [ inl own ↦ inr own | inr all ↦ inl (all (cell_at p.cycle pin) (Contains-here (cell_at p.cycle pin) [])) ],
        λ h. exact.1 (elim h [ inl there ↦ inr (λ c among. subst (λ x. known (lit x true) ≡ true) (lone c among) there) | inr own ↦ inl own ]),
      )
  after-forced false =
      let exact = target_other-exact true true (instance_of Dff (pin ∷ []) p) and_like known (dff_apart (pin ∷ []) p) (cell_at p.cycle pin) (Contains-here (cell_at p.cycle pin) []) in (
        λ f. elim (exact.0 f) [ inl own ↦ inr own | inr (c, among, there) ↦ inl (subst (λ x. known (lit x false) ≡ true) (sym (lone c among)) there) ],
        λ h. exact.1 (elim h [ inl there ↦ inr (cell_at p.cycle pin, Contains-here (cell_at p.cycle pin) [], there) | inr own ↦ inl own ]),
      )

  before-forced : (bit : Bool) → Forces (instance_of Dff (pin ∷ []) p) (passing known) (lit (cell_at p.cycle pin) bit) ↔ KnownOfEither bit
  before-forced true = pin_p-exact true true (instance_of Dff (pin ∷ []) p) and_like known (dff_apart (pin ∷ []) p) (cell_at p.cycle pin) (Contains-here (cell_at p.cycle pin) [])
  before-forced false =
      let exact = pin_other-exact true true (instance_of Dff (pin ∷ []) p) and_like known (dff_apart (pin ∷ []) p) (cell_at p.cycle pin) (Contains-here (cell_at p.cycle pin) []) in (
        λ f. elim (exact.0 f) [ inl own ↦ inl own | inr (there, rest) ↦ inr there ],
        λ h. exact.1 (elim h [
          | inl own ↦ inl own
          | inr there ↦ inr (
            there,
            λ d among differ.
                absurd (true≢false (sym (cell_eq-itself (cell_at p.cycle pin)) ∙ ap (cell_eq (cell_at p.cycle pin)) (lone d among) ∙ differ)),
          )
        ]),
      )

  -- an instance forces a literal of either cell where that bit is known of one
  pub instance-forces : (c : Cell) (bit : Bool)
      → Forces (instance_of Dff (pin ∷ []) p) (passing known) (lit c bit) ↔ (((c ≡ cell_at p.cycle pin) ⊎ (c ≡ cell_at (p.cycle + 1) p.target)) × KnownOfEither bit)
  instance-forces c bit = (
    λ f. elim (Contains-cases (cell_at (p.cycle + 1) p.target) (cell_at p.cycle pin ∷ []) c f.on_cells) [
      | inl e ↦ (inr (sym e), (after-forced bit).0 (subst (λ x. Forces (instance_of Dff (pin ∷ []) p) (passing known) (lit x bit)) (sym e) f))
      | inr among ↦ (inl (sym (lone c among)), (before-forced bit).0 (subst (λ x. Forces (instance_of Dff (pin ∷ []) p) (passing known) (lit x bit)) (sym (lone c among)) f))
    ],
    λ (which, h). elim which [
      | inl e ↦ subst (λ x. Forces (instance_of Dff (pin ∷ []) p) (passing known) (lit x bit)) (sym e) ((before-forced bit).1 h)
      | inr e ↦ subst (λ x. Forces (instance_of Dff (pin ∷ []) p) (passing known) (lit x bit)) (sym e) ((after-forced bit).1 h)
    ],
  )

-- the literal is of a cell of an instance in a cycle of the chunk's mask, and is known of one of its cells
pub record IsShared (u : Unrolling) (target pin : Sig) (chunk mask : ℕ) (known : Lit → Bool) (c : Cell) (bit : Bool) : Type 0 where
  pub cycle : ℕ
  pub in_chunk : cycle / 64 ≡ chunk
  pub in_time : cycle + 1 < u.cycles
  pub in_mask : is_set mask (cycle % 64) ≡ true
  pub has_cell : (c ≡ cell_at cycle pin) ⊎ (c ≡ cell_at (cycle + 1) target)
  pub is_known : (known (lit (cell_at cycle pin) bit) ≡ true) ⊎ (known (lit (cell_at (cycle + 1) target) bit) ≡ true)

module _ (u : Unrolling) (target pin : Sig) (chunk mask : ℕ) (early : chunk < chunks_in u) (driver : driver_at u.circuit.drivers target.0 ≡ Driven Dff (pin ∷ [])) (known : Lit → Bool) where
  -- an instance of the target is the flip-flop's
  the-instance : (p : Place) (i : Instance) → target ≡ p.target → Stands u.cycles (driver_at u.circuit.drivers p.target.0) p i
      → (i ≡ instance_of Dff (pin ∷ []) p) × (p.cycle + 1 < u.cycles)
  the-instance p i at s =
      let same : Driven s.kind s.pins ≡ Driven Dff (pin ∷ []) = sym s.driver ∙ ap (λ (x : Sig). driver_at u.circuit.drivers x.0) (sym at) ∙ driver in
      let kind : s.kind ≡ Dff = same-kind s.kind Dff s.pins (pin ∷ []) same in
      let pins : s.pins ≡ pin ∷ [] = same-pins s.kind Dff s.pins (pin ∷ []) same in (
        s.is ∙ ap (λ k. instance_of k s.pins p) kind ∙ ap (λ ps. instance_of Dff ps p) pins,
        subst (λ k. p.cycle + delay k < u.cycles) kind s.in_time,
      )
    where
      same-kind : (j k : Kind) (xs ys : List Sig) → Driven j xs ≡ Driven k ys → j ≡ k
      same-kind j k xs ys e = cc

      same-pins : (j k : Kind) (xs ys : List Sig) → Driven j xs ≡ Driven k ys → xs ≡ ys
      same-pins j k xs ys e = cc

  -- exactly what the flip-flop's task forces in the cycles of the mask
  pub task-forces : (c : Cell) (bit : Bool) → ForcedInCycles u (task_at u target chunk) mask known (lit c bit) ↔ IsShared u target pin chunk mask known c bit
  task-forces c bit = (
    λ f.
        let p : Place = f.place in
        let at : target ≡ p.target = sym (block-sig u target chunk early) ∙ f.belongs.0 in
        let is : (f.forces.instance ≡ instance_of Dff (pin ∷ []) p) × (p.cycle + 1 < u.cycles) = the-instance p f.forces.instance at (stands (unrolled u) p f.forces.instance f.forces.stands) in
        let says = (instance-forces pin p known c bit).0 (subst (λ i. Forces i (passing known) (lit c bit)) is.0 f.forces.forces) in
        record {
          cycle = p.cycle;
          in_chunk = sym f.belongs.1 ∙ block-chunk u target chunk early;
          in_time = is.1;
          in_mask = f.in_mask;
          has_cell = subst (λ s. (c ≡ cell_at p.cycle pin) ⊎ (c ≡ cell_at (p.cycle + 1) s)) (sym at) says.0;
          is_known = subst (λ s. (known (lit (cell_at p.cycle pin) bit) ≡ true) ⊎ (known (lit (cell_at (p.cycle + 1) s) bit) ≡ true)) (sym at) says.1;
        },
    λ h.
        let p : Place = record { cycle = h.cycle; target = target } in
        record {
          place = p;
          belongs = (block-sig u target chunk early, block-chunk u target chunk early ∙ sym h.in_chunk);
          in_mask = h.in_mask;
          forces = record {
            instance = instance_of Dff (pin ∷ []) p;
            stands = stands-at (unrolled u) p Dff (pin ∷ []) driver h.in_time;
            forces = (instance-forces pin p known c bit).1 (h.has_cell, h.is_known);
          };
        },
  )
