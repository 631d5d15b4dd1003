use Rattle.std.proofs.Common.{◌≡◌, ◌+◌, ◌≤◌, ◌++◌, length, map, take}
use Rattle.sr_model.specs.Room.{texts}
use Rattle.netlist.specs.Numbering.{once, sig_in}
use Rattle.netlist.proofs.names.NameTable.add_all.Given as goal

abbrev pub invariant-loop-name : goal.invariant-loop-name
invariant-loop-name l = record {
  names : l.self ≡ once (l.fn.self ++ take l.name-index (texts l.names));
  sigs : l.sigs.items ≡ l.initial.sigs.items ++ map (sig_in l.self) (take l.name-index (texts l.names));
  few : length l.self ≤ length l.fn.self + l.name-index;
}
