-- N is small once the arguments are right (`count_small`), so it fits a word.
use mathlib.Core.Path.{ap, ◌∙◌}
use native.Mathlib.Omega.{arith}
use Rattle.kinds.specs.Kinds.{fixed_part}
use Rattle.fields.proofs.Bounds.{counted, count_small}
use Rattle.fields.proofs.fixed_words.Goals as goal

pub overflow_cast-n : goal.overflow_cast-n
overflow_cast-n c =
    let p = c.requires in
    omega (arith, counted c.args.dim c.args.points p.dim_value.0 c.point_count-n.ensures, count_small _ _ _ p.dim_value.0 p.dim_value.1.0 p.dim_value.1.1 p.dim_value_2)

pub returns : goal.returns
returns c =
    c.fixed_part.ensures ∙ ap (fixed_part c.args.dim c.args.kind) (counted _ _ c.requires.dim_value.0 c.point_count-n.ensures)
