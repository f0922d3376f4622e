-- The last look, by its three ways out.
use mathlib.Core.Path.{ap, ◌∙◌}
use Rattle.std.specs.Prelude.{Err}
use native.Mathlib.Omega.{arith}
use Rattle.entries.proofs.Laws.{length_entries}
use Rattle.lookup.proofs.Turns.{last_found, last_other, last_none}
use Rattle.lookup.proofs.find.Goals as goal

pub overflow_add-result : goal.overflow_add-result
overflow_add-result c =
    omega (arith, c.halve-low.ensures.few, length_entries (c.args.s.now), c.well_formed.0)

pub returns-then-e-name : goal.returns-then-e-name
returns-then-e-name c =
    last_found (c.halve-low.ensures) (omega (arith, length_entries (c.args.s.now), c.if-low-s.true)) (c.entry-e.ensures) (c.if-e-name.true)

pub overflow_add-looks : goal.overflow_add-looks
overflow_add-looks c =
    omega (arith, c.halve-low.ensures.few, length_entries (c.args.s.now), c.well_formed.0)

pub returns-then-low-s : goal.returns-then-low-s
returns-then-low-s c =
    ap Err c.none_named.ensures ∙ last_other (c.halve-low.ensures) (omega (arith, length_entries (c.args.s.now), c.if-low-s.true)) (c.entry-e.ensures) (c.if-e-name.false)

pub returns : goal.returns
returns c =
    ap Err c.none_named-2.ensures ∙ last_none (c.halve-low.ensures) (omega (arith, length_entries (c.args.s.now), c.if-low-s.false))
