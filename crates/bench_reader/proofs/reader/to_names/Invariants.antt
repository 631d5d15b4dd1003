use Rattle.std.proofs.Common.{◌≡◌, map, take}
use Rattle.sr_model.specs.Room.{texts}
use Rattle.bench_reader.proofs.reader.to_names.Given as goal

abbrev pub invariant-loop-name : goal.invariant-loop-name
invariant-loop-name l = texts l.copies ≡ map (λ name. name.now) (take l.name-index l.names)
