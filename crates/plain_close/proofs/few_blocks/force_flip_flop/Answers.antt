use Rattle.std.proofs.Common.{◌+◌, [], ◌∷◌, rules}
use Rattle.sr_model.proofs.lemmas.Members.{Contains-here}
use Rattle.gate_rules.specs.FewPins.{flip_flop_places}
use Rattle.plain_close.proofs.FewBlocks.{flip-flop-cells, pin-inside, three-inside}
use Rattle.plain_close.proofs.Viewing.{few-forced, view-three}
use Rattle.plain_close.proofs.few_blocks.force_flip_flop.Goals as goal

pub word_in_chunk-requires-2-clause-inside : goal.word_in_chunk-requires-2-clause-inside
word_in_chunk-requires-2-clause-inside c =
    pin-inside c.args.p.now c.requires.problem c.args.task c.requires.task c.requires.shape.1.0 (c.args.pin ∷ []) c.requires.shape.1.1 c.args.pin (Contains-here c.args.pin [])

pub returns-clause-forced : goal.returns-clause-forced
returns-clause-forced c =
    few-forced c.args.p.now c.requires.problem c.args.planes.now c.requires.of (flip_flop_places c.args.task c.args.pin)
    (three-inside c.args.p.now c.args.task (record { sig = c.args.pin; chunk = c.args.task.chunk }) (record { sig = c.args.task.sig; chunk = c.args.task.chunk + 1 }) (c.requires.task.signal, c.requires.task.early)
    (pin-inside c.args.p.now c.requires.problem c.args.task c.requires.task c.requires.shape.1.0 (c.args.pin ∷ []) c.requires.shape.1.1 c.args.pin (Contains-here c.args.pin [])) (c.requires.task.signal, c.requires.next))
    (c.word_in_chunk.result ∷ c.word_in_chunk-2.result ∷ c.word_in_chunk-3.result ∷ [])
    (view-three c.args.p.now c.args.planes.now c.args.task (record { sig = c.args.pin; chunk = c.args.task.chunk }) (record { sig = c.args.task.sig; chunk = c.args.task.chunk + 1 }) c.word_in_chunk.result c.word_in_chunk-2.result c.word_in_chunk-3.result
    c.word_in_chunk.ensures c.word_in_chunk-2.ensures c.word_in_chunk-3.ensures)
    c.args.task c.forced_flip_flop.result (search rules)
    (flip-flop-cells c.args.p.now c.args.task c.requires.task.early c.requires.shape.1.0 c.args.pin c.requires.shape.1.1)
    (c.forced_flip_flop.ensures c.args.p.now c.args.task c.args.pin c.requires.shape.0 c.requires.problem c.requires.task c.requires.shape.1 c.requires.next c.valid_next_bits.ensures)

pub returns-clause-known : goal.returns-clause-known
returns-clause-known c =
    view-three c.args.p.now c.args.planes.now c.args.task (record { sig = c.args.pin; chunk = c.args.task.chunk }) (record { sig = c.args.task.sig; chunk = c.args.task.chunk + 1 }) c.word_in_chunk.result c.word_in_chunk-2.result c.word_in_chunk-3.result
    c.word_in_chunk.ensures c.word_in_chunk-2.ensures c.word_in_chunk-3.ensures
