use Rattle.std.proofs.Common.{◌≡◌, ◌/◌, true, arith, inl, inr, sym, subst, ◌∙◌}
use Rattle.std.specs.List.{Contains}
use Rattle.sr_model.proofs.lemmas.Members.{not_in_nil}
use Rattle.known_planes.specs.Planes.{PlaneSet, IsOf, has}
use Rattle.plain_close.specs.Worklist.{IsSettled}
use Rattle.plain_close.proofs.wavefront.Wavefront.new.Goals as goal

pub returns-clause-wavefront : goal.returns-clause-wavefront
returns-clause-wavefront c =
    let settled : IsSettled c.args.p.now c.in_ok-copy.field-0 c.in_ok-of_planes.field-0 = subst (λ (x : PlaneSet). IsSettled c.args.p.now x c.in_ok-of_planes.field-0) (sym c.in_ok-copy.ensures) c.in_ok-of_planes.ensures.settled in
    record {
      problem = c.in_ok-of_planes.ensures.problem;
      of = subst (IsOf c.args.p.now) (sym c.in_ok-copy.ensures) (record { signals = c.requires.of.signals; chunks = c.requires.of.chunks; blocks = c.requires.of.blocks; no_later = c.requires.of.no_later });
      worklist = c.in_ok-of_planes.ensures.of;
      room = c.in_ok-new.ensures;
      size = c.in_ok-no_changes.ensures.size ∙ c.chunks.ensures.chunks;
      changes = λ at change h. absurd (not_in_nil change (subst (λ xs. Contains xs change) (c.in_ok-no_changes.ensures.none at) h));
      literals = λ l. (
        λ h. subst (λ (x : PlaneSet). has c.args.p.now x l ≡ true) c.in_ok-copy.ensures h,
        λ h. subst (λ (x : PlaneSet). has c.args.p.now x l ≡ true) (sym c.in_ok-copy.ensures) h,
      );
      sound = λ l early h. absurd (not_in_nil h.change (subst (λ xs. Contains xs h.change) (c.in_ok-no_changes.ensures.none (l.cell.cycle / 64)) h.listed));
      settled = λ t task. elim (settled t task) [
        | inl waits ↦ inl waits
        | inr done ↦ inr (λ l f. inl (done l f))
      ];
      ahead = λ chunk more apart. absurd (omega (arith, apart));
    }
