use Rattle.gate_rules.specs.AndLikeBits.{ArePinWords}
use Rattle.gate_rules.proofs.and_like.read_pins.Given as goal

abbrev pub invariant-loop-place : goal.invariant-loop-place
invariant-loop-place l = ArePinWords l.pins l.target l.view l.place l.found.lacking l.found.lacking_two l.found.other
