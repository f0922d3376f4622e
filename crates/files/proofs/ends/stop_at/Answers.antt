-- `stop_at` answers `stop_of`: each way out rewrites with the tests that led there.
use mathlib.Core.Path.{sym, ◌∙◌}
use borrow.Author.Tests.{lt-ltb, le-ltb, eq-eqb, ne_eqb}
use Rattle.files.specs.Ends.{stop_of}
use Rattle.files.proofs.ends.stop_at.Goals as goal

pub returns-then-word-eq65535 : goal.returns-then-word-eq65535
unfolding stop_of
returns-then-word-eq65535 c = simp (lt-ltb _ _ c.if-at-bound.true, eq-eqb _ _ c.if-depth-eq0.true, eq-eqb _ _ (sym c.word.ensures.is ∙ c.if-word-eq65535.true))

pub returns-else-word-eq65535 : goal.returns-else-word-eq65535
unfolding stop_of
returns-else-word-eq65535 c = simp (lt-ltb _ _ c.if-at-bound.true, eq-eqb _ _ c.if-depth-eq0.true, ne_eqb _ _ (λ h. c.if-word-eq65535.false (c.word.ensures.is ∙ h)))

pub returns-else-depth-eq0 : goal.returns-else-depth-eq0
unfolding stop_of
returns-else-depth-eq0 c = simp (lt-ltb _ _ c.if-at-bound.true, ne_eqb _ _ c.if-depth-eq0.false)

pub returns-then-depth-eq0-2 : goal.returns-then-depth-eq0-2
unfolding stop_of
returns-then-depth-eq0-2 c = simp (le-ltb _ _ c.if-at-bound.false, eq-eqb _ _ c.if-depth-eq0-2.true)

pub returns-else-depth-eq0-2 : goal.returns-else-depth-eq0-2
unfolding stop_of
returns-else-depth-eq0-2 c = simp (le-ltb _ _ c.if-at-bound.false, ne_eqb _ _ c.if-depth-eq0-2.false)
