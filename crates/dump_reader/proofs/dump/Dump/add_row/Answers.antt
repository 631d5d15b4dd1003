use Rattle.std.proofs.Common.{◌≡◌, ◌∷◌, ◌++◌, List, [], sym, ap, ◌∙◌, refl}
use Rattle.sr_model.specs.declared.cells.Sig.{Sig}
use Rattle.dump_reader.specs.declared.dump.Tri.{Tri}
use Rattle.dump_reader.specs.Recording.{Recording, row_of}
use Rattle.dump_reader.specs.Kept.{rows_of}
use Rattle.dump_reader.proofs.Rows.{kept_more, rows_of-push, sees_fresh, pushed}
use Rattle.dump_reader.proofs.dump.Dump.add_row.Goals as goal

pub invariant_of-self-2 : goal.invariant_of-self-2
invariant_of-self-2 c =
    let more : c.push.new.self.items ≡ c.self.inside.sigs.items ++ c.args.sig ∷ [] =
    pushed c.push.result c.reserve_sig.new.sigs.items (c.reserve_sig.new.sigs.items ++ c.args.sig ∷ []) c.push.new.self.items (c.push.ensures.succeeds c.in_ok-reserve_sig.ensures.room) c.push.ensures.items
    ∙ ap (λ (sigs : List Sig). sigs ++ c.args.sig ∷ []) c.reserve_sig.ensures.items in
    kept_more c.self.inside.cycles c.self.inside.sigs.items c.push.new.self.items c.self.inside.cells.items c.args.bits.now c.extend_from_slice.new.self.items
    c.self.inside.marks.items c.reserve_mark.new.marks.items _ c.args.sig c.self.invariant
    (sees_fresh c.self.inside.cycles c.self.inside.sigs.items c.self.inside.cells.items c.args.self.now c.args.sig c.self.view_is c.requires.new_signal)
    (c.requires.full ∙ ap (λ (r : Recording). r.cycles) (sym c.self.view_is)) more c.in-Ok.ensures.items c.reserve_mark.ensures.same c.in_ok-reserve_mark.ensures.room refl

pub returns-clause-rows : goal.returns-clause-rows
returns-clause-rows c =
    let more : c.push.new.self.items ≡ c.self.inside.sigs.items ++ c.args.sig ∷ [] =
    pushed c.push.result c.reserve_sig.new.sigs.items (c.reserve_sig.new.sigs.items ++ c.args.sig ∷ []) c.push.new.self.items (c.push.ensures.succeeds c.in_ok-reserve_sig.ensures.room) c.push.ensures.items
    ∙ ap (λ (sigs : List Sig). sigs ++ c.args.sig ∷ []) c.reserve_sig.ensures.items in
    ap (λ (sigs : List Sig). rows_of c.self.inside.cycles sigs c.extend_from_slice.new.self.items) more
    ∙ ap (λ (cells : List Tri). rows_of c.self.inside.cycles (c.self.inside.sigs.items ++ c.args.sig ∷ []) cells) c.in-Ok.ensures.items
    ∙ rows_of-push c.self.inside.cycles c.self.inside.sigs.items c.self.inside.cells.items c.args.sig c.args.bits.now c.self.invariant.full (c.requires.full ∙ ap (λ (r : Recording). r.cycles) (sym c.self.view_is))
    ∙ ap (λ (r : Recording). r.rows ++ row_of c.args.sig c.args.bits.now ∷ []) c.self.view_is
