-- The invariant: the first k numbers are put as signed ones (`signed_turn`).
use mathlib.Core.Path.{◌∙◌}
use mathlib.Core.List.{map}
use native.Mathlib.Omega.{arith}
use native.Mathlib.Numerals.{add-one}
use mir.Syntax.{w64}
use mir.ValLaws.{to_z-of_z}
use lib.ListN.{get_or, length-map}
use lib.Seq.{paste-zero}
use Rattle.view_numbers.specs.Numbers.{as_signed}
use Rattle.view_numbers.proofs.Laws.{pasted, signed_turn, signed_fits}
use Rattle.view_numbers.proofs.put_signed.Goals as goal

pub loop-k-init : goal.loop-k-init
loop-k-init c = paste-zero _ c.args.at (map as_signed c.args.numbers.now)

pub loop-k-preserved : goal.loop-k-preserved
loop-k-preserved c =
    rw (c.as_signed.ensures, to_z-of_z w64 (as_signed (get_or c.args.numbers.now c.loop-k.k 0)) (signed_fits (get_or c.args.numbers.now c.loop-k.k 0)), add-one)
    (signed_turn c.args.out.now _ c.args.numbers.now c.args.at c.loop-k.k c.loop-k.invariant (omega (arith, c.requires)) c.loop-k-test.true)

pub returns : goal.returns
returns c =
    let l = length-map c.args.numbers.now as_signed in
    c.loop-k.invariant ∙ pasted _ (map as_signed c.args.numbers.now) c.args.at c.loop-k.k (omega arith) (omega arith)
