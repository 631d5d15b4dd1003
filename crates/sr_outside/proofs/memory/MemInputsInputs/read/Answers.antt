use Rattle.std.proofs.Common.{◌≡◌, drop, arith}
use Rattle.std.proofs.lemmas.Grind.{common_steps}
use Rattle.sr_outside.specs.Memory.{bytes_at, ReadFails}
use Rattle.sr_outside.proofs.Listed.{last_shaky}
use Rattle.sr_outside.proofs.Places.{left_after}
use Rattle.sr_outside.proofs.memory.MemInputsInputs.read.Goals as goal

pub returns-clause-left : goal.returns-clause-left
returns-clause-left c =
    let rest : c.rest_of-rest.result.now ≡ drop c.self.inside.taken (bytes_at c.self.inside.files.items c.self.inside.last) =
    rw (← c.deref-3.ensures.value) c.rest_of-rest.ensures.rest in
    left_after _ _ c.rest_of-rest.result.now _ c.fill-count.result c.self.view_is rest c.fill-count.ensures.front

pub returns-then-lists_call-clause-cause : goal.returns-then-lists_call-clause-cause
returns-then-lists_call-clause-cause c =
    let fails : ReadFails c.args.self.now = grind (arith, common_steps) in
    last_shaky _ _ _ fails
