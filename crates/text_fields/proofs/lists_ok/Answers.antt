-- The tests are the definition's, in its order (`and_no`, `and_on`); what three times the third leaves is the remainder.
use Prim.Native.Nat.{◌%◌}
use mathlib.Core.Path.{refl}
use native.Mathlib.Omega.{arith}
use borrow.Author.Tests.{le-leb, lt-leb, eq-eqb, ne_eqb}
use Rattle.fields.proofs.Bounds.{and_no, and_on}
use Rattle.text_fields.specs.Faults.{lists_ok}
use Rattle.text_fields.proofs.lists_ok.Goals as goal

pub returns-then-characters-gt255 : goal.returns-then-characters-gt255
unfolding lists_ok
returns-then-characters-gt255 c = and_no _ (lt-leb _ _ c.if-characters-gt255.true)

pub returns-then-triples-n-ne0 : goal.returns-then-triples-n-ne0
unfolding lists_ok
returns-then-triples-n-ne0 c =
    let triples = c.args.triples in
    and_on (le-leb _ _ c.if-characters-gt255.false) (and_no _ (ne_eqb (triples % 3) 0 (λ e. c.if-triples-n-ne0.true (omega (arith, c.third-n.ensures, e)))))

pub returns : goal.returns
unfolding lists_ok
returns c =
    let triples = c.args.triples in
    and_on (le-leb _ _ c.if-characters-gt255.false) (and_on (eq-eqb (triples % 3) 0 (omega (arith, c.third-n.ensures, c.if-triples-n-ne0.false))) refl)
