use Rattle.std.proofs.Common.{[], ◌∷◌, rules}
use Rattle.sr_model.proofs.lemmas.Members.{Contains-here, Contains-there}
use Rattle.gate_rules.specs.FewPins.{two_pin_places}
use Rattle.plain_close.proofs.FewBlocks.{two-pin-cells, pin-inside, three-inside}
use Rattle.plain_close.proofs.Viewing.{few-forced, view-three}
use Rattle.plain_close.proofs.few_blocks.force_two_pins.Goals as goal

pub word_in_chunk-requires-2-clause-inside : goal.word_in_chunk-requires-2-clause-inside
word_in_chunk-requires-2-clause-inside c =
    pin-inside c.args.p.now c.requires.problem c.args.task c.requires.task c.requires.shape.0 (c.args.first ∷ c.args.second ∷ []) c.requires.shape.1 c.args.first (Contains-here c.args.first (c.args.second ∷ []))

pub word_in_chunk-requires-3-clause-inside : goal.word_in_chunk-requires-3-clause-inside
word_in_chunk-requires-3-clause-inside c =
    pin-inside c.args.p.now c.requires.problem c.args.task c.requires.task c.requires.shape.0 (c.args.first ∷ c.args.second ∷ []) c.requires.shape.1 c.args.second (Contains-there c.args.first (c.args.second ∷ []) c.args.second (Contains-here c.args.second []))

pub returns-clause-forced : goal.returns-clause-forced
returns-clause-forced c =
    few-forced c.args.p.now c.requires.problem c.args.planes.now c.requires.of (two_pin_places c.args.task c.args.first c.args.second)
    (three-inside c.args.p.now c.args.task (record { sig = c.args.first; chunk = c.args.task.chunk }) (record { sig = c.args.second; chunk = c.args.task.chunk }) (c.requires.task.signal, c.requires.task.early)
    (pin-inside c.args.p.now c.requires.problem c.args.task c.requires.task c.requires.shape.0 (c.args.first ∷ c.args.second ∷ []) c.requires.shape.1 c.args.first (Contains-here c.args.first (c.args.second ∷ [])))
    (pin-inside c.args.p.now c.requires.problem c.args.task c.requires.task c.requires.shape.0 (c.args.first ∷ c.args.second ∷ []) c.requires.shape.1 c.args.second (Contains-there c.args.first (c.args.second ∷ []) c.args.second (Contains-here c.args.second []))))
    (c.word_in_chunk.result ∷ c.word_in_chunk-2.result ∷ c.word_in_chunk-3.result ∷ [])
    (view-three c.args.p.now c.args.planes.now c.args.task (record { sig = c.args.first; chunk = c.args.task.chunk }) (record { sig = c.args.second; chunk = c.args.task.chunk }) c.word_in_chunk.result c.word_in_chunk-2.result c.word_in_chunk-3.result
    c.word_in_chunk.ensures c.word_in_chunk-2.ensures c.word_in_chunk-3.ensures)
    c.args.task c.forced_two_pins.result (search rules)
    (two-pin-cells c.args.p.now c.args.task c.requires.task.early c.requires.shape.0 c.args.first c.args.second c.requires.shape.1 c.requires.shape.3)
    (c.forced_two_pins.ensures c.args.p.now c.args.task c.args.first c.args.second c.requires.problem c.requires.task c.requires.shape)

pub returns-clause-known : goal.returns-clause-known
returns-clause-known c =
    view-three c.args.p.now c.args.planes.now c.args.task (record { sig = c.args.first; chunk = c.args.task.chunk }) (record { sig = c.args.second; chunk = c.args.task.chunk }) c.word_in_chunk.result c.word_in_chunk-2.result c.word_in_chunk-3.result
    c.word_in_chunk.ensures c.word_in_chunk-2.ensures c.word_in_chunk-3.ensures
