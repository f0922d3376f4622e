-- Each float is what its call answers; the words are there.
use Prim.Native.Nat.{ℕ, ◌+◌, ◌≤◌}
use mathlib.Core.Path.{◌≡◌, sym}
use mathlib.Core.Bool.{Bool, true, false, cond, false≢true}
use native.Mathlib.Omega.{arith}
use lib.Dec.{eqb}
use borrow.Author.Tests.{eq-eqb, ne_eqb}
use Rattle.curve_views.specs.CurveViews.{origin_at}
use Rattle.curve_views.proofs.origin_at.Goals as goal

-- x and y are there in both, z in 3D
room : (b : Bool) (i n : ℕ) → i + cond b 8 12 ≤ n → (i + 8 ≤ n) × (b ≡ false → i + 12 ≤ n)
room true i n h = (h, λ q. absurd (false≢true (sym q)))
room false i n h = (omega arith, λ q. h)

pub float_at-x-requires : goal.float_at-x-requires
float_at-x-requires c = omega (arith, (room (eqb c.args.dim 2) c.args.i _ c.requires).0)

pub overflow_add-i : goal.overflow_add-i
overflow_add-i c = omega (arith, (room (eqb c.args.dim 2) c.args.i _ c.requires).0)

pub float_at-y-requires : goal.float_at-y-requires
float_at-y-requires c = omega (arith, (room (eqb c.args.dim 2) c.args.i _ c.requires).0)

pub returns-then-dim-eq2 : goal.returns-then-dim-eq2
unfolding origin_at
returns-then-dim-eq2 c = rw (eq-eqb _ 2 c.if-dim-eq2.true, c.float_at-x.ensures, c.float_at-y.ensures)

pub overflow_add-i-2 : goal.overflow_add-i-2
overflow_add-i-2 c = omega (arith, (room (eqb c.args.dim 2) c.args.i _ c.requires).0)

pub float_at-z-requires : goal.float_at-z-requires
float_at-z-requires c = omega (arith, (room (eqb c.args.dim 2) c.args.i _ c.requires).1 (ne_eqb _ 2 c.if-dim-eq2.false))

pub returns : goal.returns
unfolding origin_at
returns c = rw (ne_eqb _ 2 c.if-dim-eq2.false, c.float_at-x.ensures, c.float_at-y.ensures, c.float_at-z.ensures)
