-- What is known of either cell of a flip-flop's instances in a chunk, as a word by their cycles, and that its task forces it of both.
use Rattle.std.proofs.Common.{ℕ, ◌≡◌, ◌+◌, ◌*◌, ◌/◌, ◌%◌, ◌<◌, ◌⊎◌, ◌↔◌, ◌&&◌, ◌||◌, Bool, true, [], ◌∷◌, arith, inl, inr, sym, ap, ◌∙◌, subst}
use Rattle.std.proofs.lemmas.Bool.{lt-ltb, ltb-true, and_parts, and_from, or_cases, or_left, or_right}
use Rattle.sr_model.specs.declared.gates.Kind.TheVariants.{Dff}
use Rattle.sr_model.specs.declared.cells.Sig.{Sig}
use Rattle.sr_model.specs.declared.cells.Cell.{Cell}
use Rattle.sr_model.specs.declared.cells.Lit.{Lit}
use Rattle.sr_model.specs.Netlist.{Driven, cell_at}
use Rattle.sr_model.specs.Closure.{lit}
use Rattle.netlist.specs.Wiring.{driver_at}
use Rattle.unroll.specs.Bits.{is_set, is_cycle}
use Rattle.unroll.specs.Problem.{Unrolling, chunks_in}
use Rattle.unroll.specs.Tasks.{task_at}
use Rattle.unroll.proofs.lemmas.Tasks.{lane-bit, lane-chunk}
use Rattle.gate_rules.specs.Forced.{ForcedInCycles}
use Rattle.gate_rules.specs.FlipFlopBits.{is_set_after, is_shared}
use Rattle.gate_rules.proofs.FlipFlopForced.{IsShared, task-forces}

-- the cell is that of the data pin in the cycle of some bit of the word, or of the flip-flop in the cycle after
pub record IsShownAt (target pin : Sig) (chunk shared : ℕ) (c : Cell) : Type 0 where
  pub lane : ℕ
  pub within : lane < 64
  pub set : is_set shared lane ≡ true
  pub cell : (c ≡ cell_at (64 * chunk + lane) pin) ⊎ (c ≡ cell_at (64 * chunk + lane + 1) target)

module _ (u : Unrolling) (target pin : Sig) (chunk : ℕ) (early : chunk < chunks_in u) (known : Lit → Bool) (valid mask : ℕ)
    (is_valid : (i : ℕ) → i < 64 → is_set valid i ≡ (is_cycle u.cycles chunk (i + 1) && is_set mask i)) (bit : Bool) (pins own next shared : ℕ)
    (is : (i : ℕ) → i < 64 → is_set shared i ≡ is_shared pins own next valid i)
    (pin-known : (k : ℕ) → k < 64 → 64 * chunk + k + 1 < u.cycles → is_set pins k ≡ known (lit (cell_at (64 * chunk + k) pin) bit))
    (after-known : (k : ℕ) → k < 64 → 64 * chunk + k + 1 < u.cycles → is_set_after own next k ≡ known (lit (cell_at (64 * chunk + k + 1) target) bit)) where
  -- the literal is known of either cell of the instance of a bit
  abbrev KnownAt : ℕ → Type 0
  KnownAt k = (known (lit (cell_at (64 * chunk + k) pin) bit) ≡ true) ⊎ (known (lit (cell_at (64 * chunk + k + 1) target) bit) ≡ true)

  in-time : (k : ℕ) → k < 64 → (is_set valid k ≡ true) ↔ ((64 * chunk + k + 1 < u.cycles) × (is_set mask k ≡ true))
  in-time k h = (
    λ set.
        let both : (is_cycle u.cycles chunk (k + 1) ≡ true) × (is_set mask k ≡ true) = and_parts (is_cycle u.cycles chunk (k + 1)) (is_set mask k) (sym (is_valid k h) ∙ set) in
        let below : 64 * chunk + (k + 1) < u.cycles = ltb-true (64 * chunk + (k + 1)) u.cycles both.0 in
        (omega (arith, below), both.1),
    λ (below, masked). is_valid k h ∙ and_from (is_cycle u.cycles chunk (k + 1)) (is_set mask k) (lt-ltb (64 * chunk + (k + 1)) u.cycles (omega (arith, below))) masked,
  )

  pub shared-says : (k : ℕ) → k < 64 → (is_set shared k ≡ true) ↔ ((64 * chunk + k + 1 < u.cycles) × (is_set mask k ≡ true) × KnownAt k)
  shared-says k h = (
    λ set.
        let parts = and_parts (is_set pins k || is_set_after own next k) (is_set valid k) (sym (is k h) ∙ set) in
        let timely : (64 * chunk + k + 1 < u.cycles) × (is_set mask k ≡ true) = (in-time k h).0 parts.1 in
        let below : 64 * chunk + k + 1 < u.cycles = timely.0 in (
          below,
          timely.1,
          elim (or_cases (is_set pins k) (is_set_after own next k) parts.0) [
            | inl p ↦ inl (sym (pin-known k h below) ∙ p)
            | inr o ↦ inr (sym (after-known k h below) ∙ o)
          ],
        ),
    λ (below, masked, either).
        is k h ∙ and_from (is_set pins k || is_set_after own next k) (is_set valid k) (elim either [
          | inl p ↦ or_left (is_set pins k) (is_set_after own next k) (pin-known k h below ∙ p)
          | inr o ↦ or_right (is_set pins k) (is_set_after own next k) (after-known k h below ∙ o)
        ]) ((in-time k h).1 (below, masked)),
  )

  -- the task forces the literal of just the cells that are so shown
  pub shown-forced : driver_at u.circuit.drivers target.0 ≡ Driven Dff (pin ∷ []) → (c : Cell) → IsShownAt target pin chunk shared c ↔ ForcedInCycles u (task_at u target chunk) mask known (lit c bit)
  shown-forced driver c =
      let exact = task-forces u target pin chunk mask early driver known c bit in (
        λ a.
            let says : (64 * chunk + a.lane + 1 < u.cycles) × (is_set mask a.lane ≡ true) × KnownAt a.lane = (shared-says a.lane a.within).0 a.set in
            exact.1 (record {
              cycle = 64 * chunk + a.lane;
              in_chunk = lane-chunk chunk a.lane a.within;
              in_time = says.0;
              in_mask = ap (is_set mask) (lane-bit chunk a.lane a.within) ∙ says.1;
              has_cell = a.cell;
              is_known = says.2;
            }),
        λ f.
            let s : IsShared u target pin chunk mask known c bit = exact.0 f in
            let within : s.cycle % 64 < 64 = below s.cycle in
            let at : s.cycle ≡ 64 * chunk + s.cycle % 64 = cycle s.cycle chunk s.in_chunk in
            let there : (64 * chunk + s.cycle % 64 + 1 < u.cycles) × (is_set mask (s.cycle % 64) ≡ true) × KnownAt (s.cycle % 64) = (
              subst (λ n. n + 1 < u.cycles) at s.in_time,
              s.in_mask,
              subst (λ n. (known (lit (cell_at n pin) bit) ≡ true) ⊎ (known (lit (cell_at (n + 1) target) bit) ≡ true)) at s.is_known,
            ) in
            record {
              lane = s.cycle % 64;
              within = within;
              set = (shared-says (s.cycle % 64) within).1 there;
              cell = subst (λ n. (c ≡ cell_at n pin) ⊎ (c ≡ cell_at (n + 1) target)) at s.has_cell;
            },
      )
    where
      below : (n : ℕ) → n % 64 < 64
      below n = omega arith

      cycle : (n c : ℕ) → n / 64 ≡ c → n ≡ 64 * c + n % 64
      cycle n c e = omega arith
