-- No room for a view, or its parts put one behind another.
use mathlib.Core.Path.{ap, ◌∙◌}
use Prim.Native.Nat.{◌+◌}
use native.Mathlib.Omega.{arith}
use mathlib.Core.List.{map}
use lib.Seq.{sets}
use Rattle.view_numbers.specs.Numbers.{kind_numbers, range_numbers, as_signed}
use Rattle.view_numbers.proofs.Laws.{no_room, room}
use Rattle.view_numbers.proofs.put_view.Goals as goal

pub returns-then-out-lt32 : goal.returns-then-out-lt32
returns-then-out-lt32 c = no_room _ _ _ _ (omega arith)

pub returns-then-out-at : goal.returns-then-out-at
returns-then-out-at c = no_room _ _ _ _ (omega arith)

pub returns : goal.returns
returns c =
    let a = c.args in
    room _ _ _ _ _ (omega (arith, c.if-out-lt32.false, c.if-out-at.false))
    (c.put_kind.ensures
    ∙ ap (λ x. sets x (a.at + 15) (map as_signed (kind_numbers a.place a.element))) (c.put_range.ensures
    ∙ ap (λ x. sets x (a.at + 8) (range_numbers a.element.range)) c.put_common.ensures))
