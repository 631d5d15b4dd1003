use Rattle.std.proofs.Common.{◌≡◌, ◌+◌, ◌-◌, ◌*◌, List, length, take, drop, map, sym, ap, ◌∙◌, Option, Some, arith}
use Rattle.std.specs.Prelude.{option_map}
use Rattle.sr_model.specs.Dump.{Row}
use Rattle.dump_reader.specs.declared.dump.Tri.{Tri}
use Rattle.dump_reader.specs.Recording.{tri_bit}
use Rattle.dump_reader.proofs.Rows.{sees_within, sees_row, row_within}
use Rattle.dump_reader.proofs.dump.Dump.row_bits.Goals as goal

pub overflow_mul-start : goal.overflow_mul-start
overflow_mul-start c =
    let within = row_within c.self.inside.cycles (length c.self.inside.sigs.items) c.args.i (sees_within c.self.inside.cycles c.self.inside.sigs.items c.self.inside.cells.items c.args.self.now c.args.i c.self.view_is c.requires) in
    omega (arith, within, c.self.invariant.full, c.self.inside.cells.ok.0, c.self.inside.cells.small)

pub overflow_add-result : goal.overflow_add-result
overflow_add-result c =
    let within = row_within c.self.inside.cycles (length c.self.inside.sigs.items) c.args.i (sees_within c.self.inside.cycles c.self.inside.sigs.items c.self.inside.cells.items c.args.self.now c.args.i c.self.view_is c.requires) in
    omega (arith, within, c.self.invariant.full, c.self.inside.cells.ok.0, c.self.inside.cells.small)

pub slice_bounds-result-end : goal.slice_bounds-result-end
slice_bounds-result-end c =
    let within = row_within c.self.inside.cycles (length c.self.inside.sigs.items) c.args.i (sees_within c.self.inside.cycles c.self.inside.sigs.items c.self.inside.cells.items c.args.self.now c.args.i c.self.view_is c.requires) in
    omega (arith, within, c.self.invariant.full, c.self.inside.cells.ok.0, c.deref.ensures.len)

pub returns-clause-cells : goal.returns-clause-cells
returns-clause-cells c =
    let start = c.args.i * c.self.inside.cycles in
    let len : c.self.inside.cycles ≡ start + c.self.inside.cycles - start = omega arith in
    ap (λ (o : Option Row). option_map (λ (row : Row). row.bits) o)
    (sees_row c.self.inside.cycles c.self.inside.sigs.items c.self.inside.cells.items c.args.self.now c.args.i (record { 0 = 0 }) c.self.view_is c.requires)
    ∙ ap (λ n. Some (map tri_bit (take n (drop start c.self.inside.cells.items)))) len
    ∙ ap (λ (cells : List Tri). Some (map tri_bit (take (start + c.self.inside.cycles - start) (drop start cells)))) (sym c.deref.ensures.value)
