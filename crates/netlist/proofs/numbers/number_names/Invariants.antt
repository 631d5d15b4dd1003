use Rattle.std.proofs.Common.{◌≡◌, ◌≤◌, length, map, take}
use Rattle.std.specs.List.{flat_map}
use Rattle.sr_model.specs.Limits.{max_signals}
use Rattle.sr_model.specs.Declaration.{declared}
use Rattle.netlist.specs.Numbering.{names_of, pin_names, sig_in}
use Rattle.netlist.specs.Mentions.{first_mention}
use Rattle.netlist.proofs.numbers.number_names.Given as goal

abbrev pub invariant-loop-stated : goal.invariant-loop-stated
invariant-loop-stated l = record {
  names : l.names ≡ names_of (take l.stated-index (declared l.s));
  firsts : l.firsts.items ≡ map (λ d. sig_in l.names (first_mention d)) (take l.stated-index (declared l.s));
  pins : l.pins.items ≡ map (sig_in l.names) (flat_map pin_names (take l.stated-index (declared l.s)));
  few : length l.names ≤ max_signals;
}
