-- Before number k nothing is put; the element is there, since its place is at a word of the file (`one_put`).
use mathlib.Core.Path.{sym, ◌∙◌}
use native.Mathlib.Omega.{arith}
use Rattle.views.proofs.Known.{known_not}
use Rattle.dgn_all_views.proofs.Puts.{one_before, one_put}
use Rattle.dgn_all_views.proofs.put_one.Goals as goal

pub returns-then-i-k : goal.returns-then-i-k
returns-then-i-k c = one_before c.args.k c.args.i c.args.views.now _ c.if-i-k.true

pub overflow_mul-from : goal.overflow_mul-from
overflow_mul-from c = omega (arith, c.requires.1 c.if-i-k.false)

pub returns-in-Ok : goal.returns-in-Ok
returns-in-Ok c =
    one_put c.args.file.now c.args.place c.args.depth c.args.above _ c.args.k
    c.args.i c.args.views.now _
    (sym c.element_in.ensures ∙ c.in-Ok.is) c.requires.0 c.if-i-k.false
    (c.requires.1 c.if-i-k.false) c.put_view.ensures

pub returns-in_default : goal.returns-in_default
returns-in_default c =
    absurd
    (known_not c.args.file.now c.args.place c.args.depth _ _ _ c.requires.0
    (sym c.element_in.ensures ∙ c.in_default.is))
