-- The first float that is refused decides.
use mathlib.Core.Path.{sym, ◌∙◌}
use Rattle.words.specs.Words.{words}
use Rattle.curves.proofs.Laws.{pair_is}
use Rattle.curves.proofs.pair_ok.Goals as goal

pub returns-then-not-float_ok : goal.returns-then-not-float_ok
returns-then-not-float_ok c =
    let a = c.args in
    rw (pair_is (words a.s.now) a.k, sym c.float_ok.ensures ∙ c.if-not-float_ok.true)

pub returns : goal.returns
returns c =
    let a = c.args in
    rw (pair_is (words a.s.now) a.k, sym c.float_ok.ensures ∙ c.if-not-float_ok.false) c.float_ok-2.ensures
