use Rattle.std.proofs.Common.{suc, ◌≡◌, length, arith, inl, inr, sym, subst, ◌∙◌}
use Rattle.std.specs.Option.{is_some}
use Rattle.plain_close.specs.Levels.{GoesToNext}
use Rattle.plain_close.proofs.WholeLog.{clash-of, fewer-left, logged-clash, logged-end, logged-none, logged-on, still-none}
use Rattle.plain_close.proofs.log.derive_log.Goals as goal

pub loop-alloc-init : goal.loop-alloc-init
loop-alloc-init c = (
  0,
  logged-none c.args.p.now c.args.base.now c.in_ok-level.level c.new-steps.result.items c.clash-clash.result c.in_ok-level.ensures c.new-steps.ensures.items
      (clash-of c.args.p.now c.args.base.now c.args.base.now 0 (λ l. (λ h. h, λ h. h)) c.clash-clash.result c.clash-clash.ensures.some c.clash-clash.ensures.within c.clash-clash.ensures.none),
)

-- ---- a level that has a clash

pub returns-then-is_some-clause-log : goal.returns-then-is_some-clause-log
returns-then-is_some-clause-log c =
    logged-clash c.args.p.now c.args.base.now c.loop-alloc.invariant.0 c.loop-alloc.level c.loop-alloc.steps.items c.loop-alloc.clash (sym c.is_some.ensures ∙ c.if-is_some.true) c.loop-alloc.invariant.1

-- ---- a level from which nothing follows

pub returns-then-len-before-clause-log : goal.returns-then-len-before-clause-log
returns-then-len-before-clause-log c =
    (logged-end c.args.p.now c.args.base.now c.loop-alloc.invariant.0 c.loop-alloc.level c.loop-alloc.steps.items c.loop-alloc.clash (sym c.is_some.ensures ∙ c.if-is_some.false) c.loop-alloc.invariant.1 c.in_ok-added.added
    c.advance.new.self c.advance.new.steps.items (c.in_ok-added.ensures c.args.base.now c.loop-alloc.invariant.0 c.loop-alloc.invariant.1.level_is) (omega (arith, c.if-len-before.true, c.len.ensures, c.len-before.ensures))).0

pub returns-then-len-before-clause-within : goal.returns-then-len-before-clause-within
returns-then-len-before-clause-within c =
    (logged-end c.args.p.now c.args.base.now c.loop-alloc.invariant.0 c.loop-alloc.level c.loop-alloc.steps.items c.loop-alloc.clash (sym c.is_some.ensures ∙ c.if-is_some.false) c.loop-alloc.invariant.1 c.in_ok-added.added
    c.advance.new.self c.advance.new.steps.items (c.in_ok-added.ensures c.args.base.now c.loop-alloc.invariant.0 c.loop-alloc.invariant.1.level_is) (omega (arith, c.if-len-before.true, c.len.ensures, c.len-before.ensures))).1

-- ---- the next level

pub clash-clash-requires-then-added : goal.clash-clash-requires-then-added
clash-clash-requires-then-added c = (c.in_ok-added.ensures c.args.base.now c.loop-alloc.invariant.0 c.loop-alloc.invariant.1.level_is).level.of

pub loop-alloc-smaller-then-added : goal.loop-alloc-smaller-then-added
loop-alloc-smaller-then-added c =
    fewer-left c.args.p.now c.args.base.now c.loop-alloc.invariant.0 c.loop-alloc.level c.loop-alloc.steps.items c.loop-alloc.clash (sym c.is_some.ensures ∙ c.if-is_some.false) c.loop-alloc.invariant.1 c.in_ok-added.added
    c.advance.new.self c.advance.new.steps.items (c.in_ok-added.ensures c.args.base.now c.loop-alloc.invariant.0 c.loop-alloc.invariant.1.level_is) (λ same. omega (arith, same, c.if-len-before.false, c.len.ensures, c.len-before.ensures))

pub loop-alloc-smaller : goal.loop-alloc-smaller
loop-alloc-smaller c =
    fewer-left c.args.p.now c.args.base.now c.loop-alloc.invariant.0 c.loop-alloc.level c.loop-alloc.steps.items c.loop-alloc.clash (sym c.is_some.ensures ∙ c.if-is_some.false) c.loop-alloc.invariant.1 c.in_ok-added.added
    c.advance.new.self c.advance.new.steps.items (c.in_ok-added.ensures c.args.base.now c.loop-alloc.invariant.0 c.loop-alloc.invariant.1.level_is) (λ same. omega (arith, same, c.if-len-before.false, c.len.ensures, c.len-before.ensures))

pub loop-alloc-preserved-then-added : goal.loop-alloc-preserved-then-added
loop-alloc-preserved-then-added c =
    let goes = c.in_ok-added.ensures c.args.base.now c.loop-alloc.invariant.0 c.loop-alloc.invariant.1.level_is in (
      suc c.loop-alloc.invariant.0,
      logged-on c.args.p.now c.args.base.now c.loop-alloc.invariant.0 c.loop-alloc.level c.loop-alloc.steps.items c.loop-alloc.clash (sym c.is_some.ensures ∙ c.if-is_some.false) c.loop-alloc.invariant.1 c.in_ok-added.added
          c.advance.new.self c.advance.new.steps.items goes (λ same. omega (arith, same, c.if-len-before.false, c.len.ensures, c.len-before.ensures)) c.clash-clash-then-added.result
          (clash-of c.args.p.now c.args.base.now c.advance.new.self.planes (suc c.loop-alloc.invariant.0) goes.level.literals c.clash-clash-then-added.result c.clash-clash-then-added.ensures.some
          c.clash-clash-then-added.ensures.within c.clash-clash-then-added.ensures.none),
    )

pub loop-alloc-preserved : goal.loop-alloc-preserved
loop-alloc-preserved c =
    let goes = c.in_ok-added.ensures c.args.base.now c.loop-alloc.invariant.0 c.loop-alloc.invariant.1.level_is in (
      suc c.loop-alloc.invariant.0,
      logged-on c.args.p.now c.args.base.now c.loop-alloc.invariant.0 c.loop-alloc.level c.loop-alloc.steps.items c.loop-alloc.clash (sym c.is_some.ensures ∙ c.if-is_some.false) c.loop-alloc.invariant.1 c.in_ok-added.added
          c.advance.new.self c.advance.new.steps.items goes (λ same. omega (arith, same, c.if-len-before.false, c.len.ensures, c.len-before.ensures)) c.loop-alloc.clash
          (still-none c.args.p.now c.args.base.now c.loop-alloc.invariant.0 c.loop-alloc.level c.loop-alloc.steps.items c.loop-alloc.clash (sym c.is_some.ensures ∙ c.if-is_some.false) c.loop-alloc.invariant.1 c.in_ok-added.added
          c.advance.new.self c.advance.new.steps.items goes c.if-added.false),
    )
