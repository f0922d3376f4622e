-- What the descent finds is the header's place in the definition; its depth is at most its place, so one more fits.
use mathlib.Core.Path.{sym, ◌∙◌}
use native.Mathlib.Omega.{arith}
use Rattle.words.specs.Words.{words}
use Rattle.faults.proofs.Depths.{locate_depth}
use Rattle.faults.proofs.components_under.Goals as goal

pub overflow_add-result : goal.overflow_add-result
overflow_add-result c =
    let spot = c.in-Ok.spot in
    omega (
      arith,
      locate_depth (words c.args.used.now) c.args.header c.args.marker spot.end spot.depth spot.above (sym c.locate.ensures ∙ c.in-Ok.is),
      c.ranges.marker,
    )

pub returns : goal.returns
returns c = rw (sym c.locate.ensures ∙ c.in-Ok.is, ← c.type_at-under.ensures, sym c.is_header.ensures ∙ c.if-not-is_header.false)
