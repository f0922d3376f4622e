-- Three tests, the first that fails decides.
use mathlib.Core.Path.{refl, sym, ◌∙◌}
use Rattle.indexed.proofs.lent_ok.Goals as goal

pub returns-then-not-used_ok : goal.returns-then-not-used_ok
returns-then-not-used_ok c = rw (sym (c.used_ok.ensures) ∙ c.if-not-used_ok.true) refl

pub returns-then-not-used_ok-2 : goal.returns-then-not-used_ok-2
returns-then-not-used_ok-2 c =
    rw (sym (c.used_ok.ensures) ∙ c.if-not-used_ok.false, sym (c.used_ok-2.ensures) ∙ c.if-not-used_ok-2.true) refl

pub returns : goal.returns
returns c =
    rw (sym (c.used_ok.ensures) ∙ c.if-not-used_ok.false, sym (c.used_ok-2.ensures) ∙ c.if-not-used_ok-2.false) (c.entries_ok.ensures)
