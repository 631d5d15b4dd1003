use Rattle.std.proofs.Common.{[], ◌∷◌, rules}
use Rattle.sr_model.proofs.lemmas.Members.{Contains-here}
use Rattle.gate_rules.specs.FewPins.{one_pin_places}
use Rattle.plain_close.proofs.FewBlocks.{one-pin-cells, pin-inside, two-inside}
use Rattle.plain_close.proofs.Viewing.{few-forced, view-two}
use Rattle.plain_close.proofs.few_blocks.force_one_pin.Goals as goal

pub word_in_chunk-requires-2-clause-inside : goal.word_in_chunk-requires-2-clause-inside
word_in_chunk-requires-2-clause-inside c =
    pin-inside c.args.p.now c.requires.problem c.args.task c.requires.task c.requires.shape.1.0 (c.args.pin ∷ []) c.requires.shape.1.1 c.args.pin (Contains-here c.args.pin [])

pub returns-clause-forced : goal.returns-clause-forced
returns-clause-forced c =
    few-forced c.args.p.now c.requires.problem c.args.planes.now c.requires.of (one_pin_places c.args.task c.args.pin)
    (two-inside c.args.p.now c.args.task (record { sig = c.args.pin; chunk = c.args.task.chunk }) (c.requires.task.signal, c.requires.task.early)
    (pin-inside c.args.p.now c.requires.problem c.args.task c.requires.task c.requires.shape.1.0 (c.args.pin ∷ []) c.requires.shape.1.1 c.args.pin (Contains-here c.args.pin [])))
    (c.word_in_chunk.result ∷ c.word_in_chunk-2.result ∷ [])
    (view-two c.args.p.now c.args.planes.now c.args.task (record { sig = c.args.pin; chunk = c.args.task.chunk }) c.word_in_chunk.result c.word_in_chunk-2.result c.word_in_chunk.ensures c.word_in_chunk-2.ensures)
    c.args.task c.forced_one_pin.result (search rules)
    (one-pin-cells c.args.p.now c.args.task c.requires.task.early c.requires.shape.1.0 c.args.pin c.requires.shape.1.1 c.requires.shape.1.3)
    (c.forced_one_pin.ensures c.args.p.now c.args.task c.args.pin c.requires.shape.0 c.requires.problem c.requires.task c.requires.shape.1)

pub returns-clause-known : goal.returns-clause-known
returns-clause-known c =
    view-two c.args.p.now c.args.planes.now c.args.task (record { sig = c.args.pin; chunk = c.args.task.chunk }) c.word_in_chunk.result c.word_in_chunk-2.result c.word_in_chunk.ensures c.word_in_chunk-2.ensures
