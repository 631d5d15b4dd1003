use Rattle.std.proofs.Common.{◌≡◌, true, length, get_or, false, take}
use Rattle.std.specs.Prelude.{◌↔◌, Contains}
use Rattle.sr_model.specs.declared.cells.Sig.{Sig}
use Rattle.restore_program.specs.Tracing.{AreNamed, names_in}
use Rattle.restore_program.proofs.trace.traced_signals.Given as goal

-- the names that were met are those of the signals, which alone are marked
abbrev pub invariant-loop-name : goal.invariant-loop-name
invariant-loop-name l =
    (length l.marks.items ≡ length l.n.drivers) × AreNamed l.n (take (length l.yielded) (names_in l.list)) l.sigs.items
    × ((s : Sig) → (get_or l.marks.items s.0 false ≡ true) ↔ Contains l.sigs.items s)
