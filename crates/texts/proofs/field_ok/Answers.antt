-- Each return has the values of the tests before it.
use native.Mathlib.Omega.{arith}
use mathlib.Core.Bool.{Bool, true, ◌||◌}
use mathlib.Core.Path.{◌≡◌, ◌∙◌}
use lib.Dec.{eqb}
use borrow.Author.Tests.{le-leb, lt-leb, ne_eqb}
use Rattle.texts.specs.Texts.{field_ok}
use Rattle.texts.proofs.Laws.{below_two}
use Prim.Native.Nat.{◌+◌}
use Rattle.texts.proofs.field_ok.Goals as goal
use Rattle.texts.proofs.field_ok.Goals.{Else-c-first-2}

pub returns-then-first-lt1 : goal.returns-then-first-lt1
returns-then-first-lt1 c = simp (lt-leb 1 c.args.first c.if-first-lt1.true)

pub returns-then-c-first : goal.returns-then-c-first
returns-then-c-first c = simp (le-leb 1 c.args.first c.if-first-lt1.false, lt-leb _ _ c.if-c-first.true)

pub returns-then-c-first-2 : goal.returns-then-c-first-2
returns-then-c-first-2 c =
    let a = c.args in
    simp (le-leb 1 a.first c.if-first-lt1.false, le-leb _ _ c.if-c-first.false, lt-leb (a.first + a.size) (a.c + 1) (omega arith))

-- the field begins at a character and ends by the last
inside : (c : Else-c-first-2) (b : Bool) → b ≡ (eqb c.args.justification 255 || (eqb c.args.justification 0 || eqb c.args.justification 1)) → b ≡ field_ok c.args.c c.args.first c.args.size c.args.justification
inside c b e =
    let a = c.args in
    let f = c.if-c-first-2.false in
    e ∙ simp (le-leb 1 a.first c.if-first-lt1.false, le-leb a.first a.c c.if-c-first.false, le-leb (a.first + a.size) (a.c + 1) (omega arith))

pub returns-then-justification-eq255 : goal.returns-then-justification-eq255
returns-then-justification-eq255 c = inside (goal.at.returns-then-justification-eq255 c).Else-c-first-2 true (simp c.if-justification-eq255.true)

pub returns : goal.returns
returns c = inside (goal.at.returns c).Else-c-first-2 _ (simp (ne_eqb _ _ c.if-justification-eq255.false, below_two))
