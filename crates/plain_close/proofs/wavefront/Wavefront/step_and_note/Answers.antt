use Rattle.std.proofs.Common.{◌≡◌, ◌<◌, true, sym, subst, ◌∙◌}
use Rattle.known_planes.specs.Planes.{PlaneSet, has}
use Rattle.known_planes.specs.Counts.{literal_count}
use Rattle.plain_close.specs.Wavefront.{IsFirst, Steps, with_step}
use Rattle.plain_close.proofs.Firsts.{first-noted, first-same, wavefront-as}
use Rattle.plain_close.proofs.wavefront.Wavefront.step_and_note.Goals as goal

pub note-requires-clause-of : goal.note-requires-clause-of
note-requires-clause-of c = (c.in_ok-added.ensures.steps c.requires.wavefront.0 c.requires.wavefront.1 c.args.level c.requires.wavefront.2 c.requires.wavefront.4).wavefront.of

pub returns-then-added : goal.returns-then-added
returns-then-added c base levels is first may =
    let s : Steps c.args.p.now base levels c.args.chunk c.in_ok-added.added c.args.self.now c.step.new.self = c.in_ok-added.ensures.steps base levels c.args.level is may in
    record {
      wavefront = wavefront-as c.args.p.now base (with_step c.args.chunk levels) c.step.new.self c.note.new.self c.note.ensures.planes c.note.ensures.worklist c.note.ensures.changes c.note.ensures.buffers s.wavefront;
      first = first-noted c.args.p.now base levels c.args.chunk c.args.level may c.step.new.self.planes (λ l h. (s.wavefront.literals l).1 h) (λ l h. (s.wavefront.literals l).0 h)
          c.step.new.self.first c.note.new.self.first c.note.ensures.first (subst (IsFirst c.args.p.now base levels) (sym c.in_ok-added.ensures.first) first);
      bits = λ l h. subst (λ (x : PlaneSet). has c.args.p.now x l ≡ true) (sym c.note.ensures.planes) (s.bits l h);
      same = λ none. c.note.ensures.planes ∙ s.same none;
      more = λ some. subst (λ (x : PlaneSet). literal_count c.args.p.now c.args.self.now.planes < literal_count c.args.p.now x) (sym c.note.ensures.planes) (s.more some);
    }

pub returns-else-added : goal.returns-else-added
returns-else-added c base levels is first may =
    let s : Steps c.args.p.now base levels c.args.chunk c.in_ok-added.added c.args.self.now c.step.new.self = c.in_ok-added.ensures.steps base levels c.args.level is may in
    record {
      wavefront = s.wavefront;
      first = first-same c.args.p.now base levels c.args.chunk c.args.level may c.step.new.self.planes (λ l h. (s.wavefront.literals l).1 h) c.args.self.now.planes (λ l h. (is.literals l).0 h) (s.clash c.if-added.false)
          c.step.new.self.first (subst (IsFirst c.args.p.now base levels) (sym c.in_ok-added.ensures.first) first);
      bits = s.bits;
      same = s.same;
      more = s.more;
    }
