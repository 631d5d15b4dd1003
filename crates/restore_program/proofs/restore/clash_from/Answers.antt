use Rattle.std.proofs.Common.{refl, sym, subst}
use Rattle.std.specs.Prelude.{IsNone}
use Rattle.restore_program.proofs.Outcomes.{clash_outcome, none_both, of_found}
use Rattle.restore_program.proofs.restore.clash_from.Goals as goal

pub unreachable-requires : goal.unreachable-requires
unreachable-requires c =
    none_both c.args.p.now c.in_ok-base.base c.args.dump.now.rows c.in_ok-base.ensures.literals (c.in_ok-clash.ensures.none (subst IsNone (sym c.in-None.is) refl)) c.requires.some.0 c.requires.some.1

pub returns : goal.returns
returns c =
    clash_outcome c.args.p.now c.in_ok-base.base c.args.dump.now.rows c.in_ok-base.ensures.literals c.in-Some.clash.cell c.in-Some.clash.level
    (of_found _ c.in_ok-clash.field-0 c.in-Some.clash c.in-Some.is c.in_ok-clash.ensures.within) (of_found _ c.in_ok-clash.field-0 c.in-Some.clash c.in-Some.is c.in_ok-clash.ensures.some)
