-- The loop's invariant is `Stepping`: what is left to do from an entry with the name on is what is left from entry low on.
use mathlib.Core.Path.{◌≡◌, sym, ap, ◌∙◌}
use mathlib.Core.Bool.{false}
use native.Mathlib.Omega.{arith}
use Rattle.std.specs.Prelude.{Err}
use Rattle.entries.specs.Entries.{entries}
use Rattle.entries.proofs.Laws.{length_entries}
use Rattle.lookup.specs.Table.{named_at}
use Rattle.lookup.proofs.Steps.{named_none, step_first, step_hit, step_again}
use Rattle.lookup.proofs.go_on.Goals as goal
use Rattle.lookup.proofs.go_on.Goals.{else-loop-i-test, then-loop-i-test+then-not-has_name}

pub loop-i-init : goal.loop-i-init
loop-i-init c = step_first _ _ _ _ _ c.requires.0 c.requires.1.0

pub returns-then-is_marked : goal.returns-then-is_marked
returns-then-is_marked c =
    step_hit _ _ _ c.loop-i.invariant c.has_name.ensures c.if-not-has_name.false c.entry-place.ensures c.is_marked.ensures c.if-is_marked.true

pub loop-i-preserved : goal.loop-i-preserved
loop-i-preserved c =
    step_again _ _ _ c.loop-i.invariant c.has_name.ensures c.if-not-has_name.false c.entry-place.ensures c.is_marked.ensures c.if-is_marked.false c.loop-i.auto.i

pub returns : goal.returns
returns c =
    let end = length_entries c.args.s.now in
    let off : named_at (entries c.args.s.now) c.loop-i.i c.args.name ≡ false =
    elim c.loop-i-test.branch [
      | else-loop-i-test w ↦ sym (named_none (entries c.args.s.now) c.loop-i.i c.args.name (omega (arith, w.loop-i-test.false)))
      | then-loop-i-test+then-not-has_name w ↦ sym w.has_name.ensures ∙ w.if-not-has_name.true
    ] in
    ap Err c.none_named.ensures ∙ c.loop-i.invariant.off off
