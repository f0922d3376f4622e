-- A type with N has that word laid at 18 (`laid_word`); any other has nothing laid (`laid_none`).
use Prim.Native.Nat.{◌/◌}
use mathlib.Core.Path.{◌≡◌, sym, ap, ◌∙◌}
use mathlib.Core.List.{[], ◌∷◌}
use native.Mathlib.Omega.{arith}
use Rattle.fields.proofs.Bounds.{counted}
use Rattle.writer.specs.Writing.{laid}
use Rattle.writer.proofs.Stores.{laid_none, laid_word}
use Rattle.writer.proofs.put_count.Goals as goal
use Rattle.writer.proofs.put_count.Goals.{After-point_count-n}

number : (c : After-point_count-n) → c.point_count-n.result ≡ c.args.points / c.args.dim
number c = counted c.args.dim c.args.points c.requires.dim_value c.point_count-n.ensures

pub overflow_cast-n : goal.overflow_cast-n
overflow_cast-n c = omega (arith, number (goal.at.overflow_cast-n c).After-point_count-n, c.requires.in_bounds.1)

pub returns-then-is_pointed : goal.returns-then-is_pointed
returns-then-is_pointed c =
    let out = c.args.out.now in
    rw (sym c.is_pointed.ensures ∙ c.if-is_pointed.true)
    (c.put_word.ensures ∙ laid_word out 18 c.point_count-n.result (omega (arith, c.requires.in_bounds.0)) ∙ ap (λ n. laid out 18 (n ∷ [])) (number (goal.at.returns-then-is_pointed c).After-point_count-n))

pub returns-else-is_pointed : goal.returns-else-is_pointed
returns-else-is_pointed c = rw (sym c.is_pointed.ensures ∙ c.if-is_pointed.false) (laid_none c.args.out.now 18)
