-- Statements have one refusal at most, and those of a netlist none.
use Rattle.std.proofs.Common.{◌≡◌, ℕ, List, refl, sym, ap, ◌∙◌}
use Rattle.std.specs.List.{slice_get}
use Rattle.std.proofs.lemmas.Option.{same_Some}
use Rattle.sr_model.specs.declared.cells.Sig.{Sig}
use Rattle.sr_model.specs.Declaration.{Declaration}
use Rattle.netlist.specs.declared.checks.NetRefusal.TheVariants.{TooManySignals, TooManyPins, TwoDrivers, NoDriver, Loop, NoMemory}
use Rattle.netlist.specs.Numbering.{names_of, drivers_of}
use Rattle.netlist.specs.Checks.{without_lines, HasFewSignals, HasFewPins, IsDrivenOnce, IsDriven, FirstBreaksAt, IsFirstUndriven}
use Rattle.netlist.specs.Laws.{RefusalIsUnique, NetlistsAreNotRefused}
use Rattle.netlist.proofs.Refusals.{signals_once, pins_once, drivers_once, undriven_once}
use Rattle.netlist.proofs.Walks.{loop_fed, loop_is_unique}

module _ (ds : List (ℕ × Declaration)) where
  keeps_signals : HasFewSignals (without_lines ds) → (line : ℕ) → FirstBreaksAt HasFewSignals ds line → ⊥
  keeps_signals keeps line breaks = signals_once.none_kept ds line breaks keeps

  keeps_pins : HasFewPins (without_lines ds) → (line : ℕ) → FirstBreaksAt HasFewPins ds line → ⊥
  keeps_pins keeps line breaks = pins_once.none_kept ds line breaks keeps

  keeps_drivers : IsDrivenOnce (without_lines ds) → (line : ℕ) → FirstBreaksAt IsDrivenOnce ds line → ⊥
  keeps_drivers keeps line breaks = drivers_once.none_kept ds line breaks keeps

  keeps_driven : IsDriven (without_lines ds) → (name : List ℕ) → IsFirstUndriven (without_lines ds) name → ⊥
  keeps_driven keeps name breaks = undriven_once.none_driven (without_lines ds) name breaks keeps

pub refusal_is_unique : RefusalIsUnique
refusal_is_unique ds (TooManySignals m) (TooManySignals n) a b _ _ = signals_once.one_line ds m n a b
refusal_is_unique ds (TooManySignals m) (TooManyPins n) a b _ _ = absurd (keeps_signals ds b.0 m a)
refusal_is_unique ds (TooManySignals m) (TwoDrivers n) a b _ _ = absurd (keeps_signals ds b.0 m a)
refusal_is_unique ds (TooManySignals m) (NoDriver n) a b _ _ = absurd (keeps_signals ds b.0 m a)
refusal_is_unique ds (TooManySignals m) (Loop n steps) a b _ _ = absurd (keeps_signals ds b.0.few_signals m a)
refusal_is_unique ds (TooManyPins m) (TooManySignals n) a b _ _ = absurd (keeps_signals ds a.0 n b)
refusal_is_unique ds (TooManyPins m) (TooManyPins n) a b _ _ = pins_once.one_line ds m n a.1 b.1
refusal_is_unique ds (TooManyPins m) (TwoDrivers n) a b _ _ = absurd (keeps_pins ds b.1 m a.1)
refusal_is_unique ds (TooManyPins m) (NoDriver n) a b _ _ = absurd (keeps_pins ds b.1 m a.1)
refusal_is_unique ds (TooManyPins m) (Loop n steps) a b _ _ = absurd (keeps_pins ds b.0.few_pins m a.1)
refusal_is_unique ds (TwoDrivers m) (TooManySignals n) a b _ _ = absurd (keeps_signals ds a.0 n b)
refusal_is_unique ds (TwoDrivers m) (TooManyPins n) a b _ _ = absurd (keeps_pins ds a.1 n b.1)
refusal_is_unique ds (TwoDrivers m) (TwoDrivers n) a b _ _ = drivers_once.one_line ds m n a.2 b.2
refusal_is_unique ds (TwoDrivers m) (NoDriver n) a b _ _ = absurd (keeps_drivers ds b.2 m a.2)
refusal_is_unique ds (TwoDrivers m) (Loop n steps) a b _ _ = absurd (keeps_drivers ds b.0.driven_once m a.2)
refusal_is_unique ds (NoDriver m) (TooManySignals n) a b _ _ = absurd (keeps_signals ds a.0 n b)
refusal_is_unique ds (NoDriver m) (TooManyPins n) a b _ _ = absurd (keeps_pins ds a.1 n b.1)
refusal_is_unique ds (NoDriver m) (TwoDrivers n) a b _ _ = absurd (keeps_drivers ds a.2 n b.2)
refusal_is_unique ds (NoDriver m) (NoDriver n) a b _ _ = undriven_once.one_name (without_lines ds) m.items n.items a.3 b.3
refusal_is_unique ds (NoDriver m) (Loop n steps) a b _ _ = absurd (keeps_driven ds b.0.driven m.items a.3)
refusal_is_unique ds (Loop m steps) (TooManySignals n) a b _ _ = absurd (keeps_signals ds a.0.few_signals n b)
refusal_is_unique ds (Loop m steps) (TooManyPins n) a b _ _ = absurd (keeps_pins ds a.0.few_pins n b.1)
refusal_is_unique ds (Loop m steps) (TwoDrivers n) a b _ _ = absurd (keeps_drivers ds a.0.driven_once n b.2)
refusal_is_unique ds (Loop m steps) (NoDriver n) a b _ _ = absurd (keeps_driven ds a.0.driven n.items b.3)
refusal_is_unique ds (Loop m steps) (Loop n other) a b _ _ =
    let same : (a.1.0 ≡ b.1.0) × (steps ≡ other) = loop_is_unique (drivers_of (without_lines ds)) a.1.0 b.1.0 steps other a.1.2 b.1.2 in (
      same_Some m.items n.items (sym a.1.1 ∙ ap (λ (s : Sig). slice_get (names_of (without_lines ds)) s.0) same.0 ∙ b.1.1),
      same.1,
    )
refusal_is_unique ds NoMemory b a_is b_is a_other b_other = absurd (a_other refl)
refusal_is_unique ds a NoMemory a_is b_is a_other b_other = absurd (b_other refl)

pub netlists_are_not_refused : NetlistsAreNotRefused
netlists_are_not_refused ds (TooManySignals line) netlist refused = absurd (keeps_signals ds netlist.0.few_signals line refused)
netlists_are_not_refused ds (TooManyPins line) netlist refused = absurd (keeps_pins ds netlist.0.few_pins line refused.1)
netlists_are_not_refused ds (TwoDrivers line) netlist refused = absurd (keeps_drivers ds netlist.0.driven_once line refused.2)
netlists_are_not_refused ds (NoDriver name) netlist refused = absurd (keeps_driven ds netlist.0.driven name.items refused.3)
netlists_are_not_refused ds (Loop name steps) netlist refused =
    absurd (netlist.1 refused.1.0 (loop_fed (drivers_of (without_lines ds)) refused.1.0 steps refused.1.2))
netlists_are_not_refused ds NoMemory netlist refused = refl
