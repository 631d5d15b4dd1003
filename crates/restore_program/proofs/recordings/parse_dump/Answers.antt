use Rattle.std.proofs.Common.{subst, sym}
use Rattle.restore_program.specs.Texts.{IsDumpRefusal, SpellsDump}
use Rattle.restore_program.proofs.Answering.{bad_dumped}
use Rattle.restore_program.proofs.recordings.parse_dump.Goals as goal

pub returns-clause-refused : goal.returns-clause-refused
returns-clause-refused c words =
    bad_dumped words c.args.n.now c.args.text.items c.in-Err.refusal c.requires.short (subst (λ bytes. IsDumpRefusal c.args.n.now bytes c.in-Err.refusal) c.as_slice.ensures c.in-Err.ensures.refusal)
