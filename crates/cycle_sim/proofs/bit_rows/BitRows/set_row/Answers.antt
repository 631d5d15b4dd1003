use Rattle.std.proofs.Common.{◌<◌, ap, sym, refl, subst, get_or, ◌∙◌}
use Rattle.std.proofs.lemmas.List.{with_items_is}
use Rattle.cycle_sim.specs.BitTable.{BitTable, bit_in}
use Rattle.cycle_sim.proofs.PackedBits.{other-bit}
use Rattle.cycle_sim.proofs.bit_rows.BitRows.set_row.Goals as goal

pub returns-clause-elsewhere : goal.returns-clause-elsewhere
returns-clause-elsewhere c r column other within =
    ap (λ ws. bit_in (record { width = c.self.inside.width; count = c.self.inside.count; words = ws }) r column)
    (with_items_is c.self.inside.words c.set_words.new.words (c.set_words.ensures.size ∙ c.deref_mut.ensures.len))
    ∙ other-bit (record { width = c.self.inside.width; count = c.self.inside.count; words = c.self.inside.words.items })
    (record { width = c.self.inside.width; count = c.self.inside.count; words = c.set_words.new.words }) c.args.row r column c.words_for.result c.args.bits.now other
    (subst (λ (t : BitTable). column < t.width) (sym c.self.view_is) within) c.words_for.ensures
    (c.requires.bits ∙ ap (λ (t : BitTable). t.width) (sym c.self.view_is)) refl
    (λ p h. c.set_words.ensures.elsewhere p h ∙ ap (λ xs. get_or xs p 0) c.deref_mut.ensures.value)
    ∙ ap (λ t. bit_in t r column) c.self.view_is
