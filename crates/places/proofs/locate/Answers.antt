-- The two tests are those of `locate_of`.
use mathlib.Core.Path.{sym, ◌∙◌}
use native.Mathlib.Omega.{arith}
use Rattle.words.proofs.Laws.{length_words}
use Rattle.places.proofs.Descent.{descent_is}
use Rattle.places.proofs.Places.{locate_before, locate_after, locate_outside}
use Rattle.places.proofs.locate.Goals as goal

pub returns-then-place-file : goal.returns-then-place-file
returns-then-place-file c = descent_is _ _ _ c.descend.ensures ∙ sym (let l = length_words c.args.file.now in locate_before _ _ _ c.if-place-marker.true (omega arith))

pub returns-else-place-file : goal.returns-else-place-file
returns-else-place-file c = let l = length_words c.args.file.now in sym (locate_outside _ _ _ c.if-place-marker.true (omega arith))

pub returns-else-place-marker : goal.returns-else-place-marker
returns-else-place-marker c = sym (locate_after _ _ _ c.if-place-marker.false)
