-- Each word is what its call answers.
use mathlib.Core.Path.{refl}
use Rattle.curve_views.specs.CurveViews.{float_at}
use Rattle.curve_views.proofs.float_at.Goals as goal

pub returns : goal.returns
unfolding float_at
returns c = rw (c.d_float.ensures, c.word_in.ensures, c.word_in-2.ensures, c.word_in-3.ensures, c.word_in-4.ensures) refl
