-- A type without N passes; else the two tests are those of the definition, in its order.
use Prim.Native.Nat.{◌/◌}
use mathlib.Core.Path.{◌≡◌, sym, ap, ◌∙◌, subst}
use mathlib.Core.Bool.{true, false}
use lib.Dec.{leb}
use borrow.Author.Tests.{le-leb, lt-leb}
use Rattle.fields.specs.Faults.{point_number_ok}
use Rattle.fields.proofs.Bounds.{counted}
use Rattle.fields.proofs.point_number_ok.Goals as goal
use Rattle.fields.proofs.point_number_ok.Goals.{After-point_count-n}

pub returns-then-not-is_pointed : goal.returns-then-not-is_pointed
unfolding point_number_ok
returns-then-not-is_pointed c = simp (sym c.is_pointed.ensures ∙ c.if-not-is_pointed.true)

-- the number compared is N
number : (c : After-point_count-n) → c.point_count-n.result ≡ c.args.points / c.args.dim
number c = counted _ _ c.requires c.point_count-n.ensures

pub returns-then-n-lt2 : goal.returns-then-n-lt2
unfolding point_number_ok
returns-then-n-lt2 c =
    simp (sym c.is_pointed.ensures ∙ c.if-not-is_pointed.false, subst (λ n. leb 2 n ≡ false) (number (goal.at.returns-then-n-lt2 c).After-point_count-n) (lt-leb _ _ c.if-n-lt2.true))

pub returns : goal.returns
unfolding point_number_ok
returns c =
    simp (sym c.is_pointed.ensures ∙ c.if-not-is_pointed.false, subst (λ n. leb 2 n ≡ true) (number (goal.at.returns c).After-point_count-n) (le-leb _ _ c.if-n-lt2.false))
    (ap (λ n. leb n 101) (number (goal.at.returns c).After-point_count-n))
