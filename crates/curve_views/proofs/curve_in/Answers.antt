-- By the type; where no word stands it is 0, so a curve lies in the file (`type_inside`).
use mathlib.Core.Path.{refl, sym, ap, ◌∙◌}
use Rattle.places.proofs.OfType.{type_inside}
use Rattle.kinds.specs.Kinds.{is_curve}
use Rattle.curve_views.specs.CurveViews.{curve_in}
use Rattle.curve_views.proofs.curve_in.Goals as goal

pub returns-then-not-is_curve : goal.returns-then-not-is_curve
unfolding curve_in
returns-then-not-is_curve c = rw (sym (c.is_curve.ensures ∙ ap is_curve c.type_at-t.ensures) ∙ c.if-not-is_curve.true) refl

pub curve_from-requires : goal.curve_from-requires
curve_from-requires c =
    let is = c.type_at-t.ensures in
    let k = sym c.is_curve.ensures ∙ c.if-not-is_curve.false in
    (is, (k, type_inside is_curve refl c.args.file.now c.args.at (rw (sym is) k)))

pub returns : goal.returns
unfolding curve_in
returns c = rw (sym (c.is_curve.ensures ∙ ap is_curve c.type_at-t.ensures) ∙ c.if-not-is_curve.false) c.curve_from.ensures
