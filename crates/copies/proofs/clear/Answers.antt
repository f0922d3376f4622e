-- The part that is written holds zeros, and the rest stays; where a test fails nothing is cleared.
use Prim.Native.Nat.{ℕ, ◌-◌}
use mathlib.Core.Path.{◌≡◌, sym, ap, ◌∙◌}
use native.Mathlib.Omega.{arith}
use lib.ListN.{replicate, length-replicate, length-take, length-drop}
use Rattle.copies.proofs.Copies.{part_over}
use Rattle.copies.proofs.Clears.{cleared_in, cleared_past, cleared_back}
use Rattle.copies.proofs.clear.Goals as goal

pub returns-then-end-at : goal.returns-then-end-at
returns-then-end-at c = cleared_back _ _ _ (omega arith)

pub returns-then-s-end : goal.returns-then-s-end
returns-then-s-end c = cleared_past _ _ _ (omega arith)

pub returns : goal.returns
returns c =
    let z : c.fill.new.self ≡ replicate (c.args.end - c.args.at) 0 = c.fill.ensures.after (λ y h. h) ∙ ap (λ n. replicate n 0) (omega (arith, length-take {A = ℕ}, length-drop {A = ℕ})) in
    part_over _ _ _ _ _ z (omega (arith, length-replicate {A = ℕ})) ∙ sym (cleared_in _ _ _ (omega arith) (omega arith))
