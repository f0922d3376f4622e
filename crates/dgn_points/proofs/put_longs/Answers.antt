-- The loop's invariant: the first j longs are put.
use mathlib.Core.Path.{◌≡◌, refl, ap, ◌∙◌}
use native.Mathlib.Omega.{arith}
use lib.Seq.{sets}
use Rattle.words.specs.Words.{words}
use Rattle.words.proofs.Laws.{lent_below}
use Rattle.points_linkages.proofs.Numbered.{kept}
use Rattle.points_linkages.specs.Coordinates.{longs}
use Rattle.dgn_points.proofs.Fits.{long_turn}
use Rattle.dgn_points.proofs.put_longs.Goals as goal

pub loop-j-init : goal.loop-j-init
loop-j-init c = refl

pub loop-j-preserved : goal.loop-j-preserved
loop-j-preserved c =
    let s = c.args.file.now in
    let b = lent_below s c.type_inv.file in
    long_turn c.args.numbers.now c.loop-j.numbers (words s) c.args.first c.args.from c.loop-j.j _ c.loop-j.invariant (kept s b _ _ c.signed_long.ensures)

pub returns : goal.returns
returns c =
    let z : c.loop-j.j ≡ c.args.n = omega arith in
    c.loop-j.invariant ∙ ap
    (λ i. sets c.args.numbers.now c.args.from
    (longs i (words c.args.file.now) c.args.first))
    z
