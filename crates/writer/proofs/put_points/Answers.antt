-- The invariant: the longs of the first k coordinates are laid from `at` on. A turn lays one long more (`next_point`).
use lib.IntN.{pos}
use mir.Syntax.{w32}
use mir.ValLaws.{to_z-of_z}
use Prim.Native.Nat.{◌+◌, ◌*◌}
use mathlib.Core.Path.{ap, ◌∙◌}
use mathlib.Core.List.{map}
use native.Mathlib.Omega.{arith}
use lib.ListN.{get_or, length-map}
use lib.Seq.{take_all}
use borrow.Author.Rules.{rules}
use Rattle.words.specs.Words.{unsigned, put_long}
use Rattle.fields.specs.Words.{longs}
use Rattle.writer.specs.Writing.{laid}
use Rattle.writer.proofs.Stores.{laid_none, next_point}
use Rattle.writer.proofs.put_points.Goals as goal

pub loop-k-init : goal.loop-k-init
loop-k-init c = laid_none _ (c.args.at)

pub loop-k-preserved : goal.loop-k-preserved
loop-k-preserved c =
    let out = c.loop-k.out in
    let k = c.loop-k.k in
    let points = c.args.points.now in
    c.put_signed_long.ensures
    ∙ ap (λ z. put_long out (c.args.at + 2 * k) (unsigned z)) (to_z-of_z w32 (get_or points k (pos 0)) (search rules))
    ∙ next_point c.args.out.now out c.args.at k points c.loop-k-test.true c.requires c.loop-k.invariant

pub returns : goal.returns
returns c =
    let all = map unsigned c.args.points.now in
    c.loop-k.invariant ∙ ap (λ l. laid c.args.out.now c.args.at (longs l)) (take_all c.loop-k.k all (omega (arith, length-map c.args.points.now unsigned)))
