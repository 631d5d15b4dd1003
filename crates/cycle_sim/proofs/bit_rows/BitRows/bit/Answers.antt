use Rattle.std.proofs.Common.{◌%◌, ◌<◌, ap, sym, subst, ◌∙◌}
use Rattle.cycle_sim.specs.BitTable.{BitTable, bit_in}
use Rattle.cycle_sim.proofs.PackedBits.{bit-is, bit-read}
use Rattle.cycle_sim.proofs.bit_rows.BitRows.bit.Goals as goal

pub returns : goal.returns
returns c =
    bit-is c.index-word.result.now (c.args.column % 64)
    ∙ bit-read (record { width = c.self.inside.width; count = c.self.inside.count; words = c.self.inside.words.items }) c.args.row c.args.column c.words_for.result c.index-word.result.now
    (subst (λ (t : BitTable). c.args.row < t.count) (sym c.self.view_is) c.requires.row) (subst (λ (t : BitTable). c.args.column < t.width) (sym c.self.view_is) c.requires.column)
    c.self.invariant c.words_for.ensures c.index-word.ensures
    ∙ ap (λ t. bit_in t c.args.row c.args.column) c.self.view_is
