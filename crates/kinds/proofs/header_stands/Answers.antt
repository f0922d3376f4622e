-- The tests before each return decide the parts of `stands_header`.
use mathlib.Core.Bool.{not, ◌&&◌, and-true, and-false}
use mathlib.Core.Path.{◌≡◌, sym, ◌∙◌}
use lib.Dec.{eqb, ltb}
use borrow.Author.Tests.{ne_eqb, lt-ltb, le-ltb}
use Rattle.kinds.specs.Kinds.{may_stand}
use Rattle.kinds.proofs.Types.{stands_header, header_solid, twice}
use Rattle.kinds.proofs.header_stands.Goals as goal
use Rattle.kinds.proofs.header_stands.Goals.{Else-t-eq1}

pub is_counted-requires : goal.is_counted-requires
is_counted-requires c = tt

pub returns-then-is_counted : goal.returns-then-is_counted
returns-then-is_counted c = simp (stands_header c.args.dim c.args.under c.args.t c.requires, sym c.is_counted.ensures, c.if-is_counted.true, and-false)

pub returns-then-t-eq1 : goal.returns-then-t-eq1
returns-then-t-eq1 c =
    sym
    (stands_header c.args.dim c.args.under c.args.t c.requires ∙ simp
    (c.if-t-eq1.true, sym c.is_counted.ensures, c.if-is_counted.false, and-false, and-true, twice))

-- under no header with a count, any but type 1
by : (c : Else-t-eq1) → may_stand c.args.dim c.args.under c.args.t ≡ not (eqb c.args.dim 2 && ltb 17 c.args.t)
by c =
    simp (
      stands_header c.args.dim c.args.under c.args.t c.requires,
      header_solid c.args.t c.requires,
      ne_eqb _ _ c.if-t-eq1.false,
      sym c.is_counted.ensures,
      c.if-is_counted.false,
      and-true,
    )

pub returns-then-t-gt17 : goal.returns-then-t-gt17
returns-then-t-gt17 c = simp (by (goal.at.returns-then-t-gt17 c).Else-t-eq1, lt-ltb _ _ c.if-t-gt17.true, and-true)

pub returns : goal.returns
returns c = simp (by (goal.at.returns c).Else-t-eq1, le-ltb _ _ c.if-t-gt17.false, and-false)
