-- The attribute part begins and ends in the file (`spotted_inside`); its linkages are those that the walk gives.
use mathlib.Core.Path.{sym, ap, ◌∙◌}
use native.Mathlib.Omega.{arith}
use Rattle.std.proofs.lemmas.Result.{err_from_is_err_and}
use Rattle.words.proofs.Laws.{lent_below}
use Rattle.points_linkages.specs.Linkages.{attribute_by, linkage_of}
use Rattle.headers.proofs.Laws.{size_small}
use Rattle.places.proofs.Places.{Inside, spotted_inside}
use Rattle.points_linkages.proofs.Numbered.{linkage_there, linkage_none}
use Rattle.points_linkages.proofs.attributes.linkage_at.Goals as goal
use Rattle.points_linkages.proofs.attributes.linkage_at.Goals.{In_ok-spotted_at}

-- the element lies in the file
inside : (c : In_ok-spotted_at) → Inside c.args.dim c.args.file.now c.args.place c.in_ok-spotted_at.field-0.end
inside c = spotted_inside _ _ _ _ _ _ (sym c.spotted_at.ensures ∙ c.in_ok-spotted_at.was)

pub has_attributes-requires : goal.has_attributes-requires
has_attributes-requires c = omega (arith, inside (goal.at.has_attributes-requires c).In_ok-spotted_at)

pub overflow_add-place : goal.overflow_add-place
overflow_add-place c = omega (arith, inside (goal.at.overflow_add-place c).In_ok-spotted_at)

pub overflow_add-end : goal.overflow_add-end
overflow_add-end c =
    let s = c.args.file.now in
    omega (
      arith,
      inside (goal.at.overflow_add-end c).In_ok-spotted_at,
      c.size_at.ensures,
      size_small s
          (lent_below s c.type_inv.file) c.args.place,
    )

pub overflow_add-place-2 : goal.overflow_add-place-2
overflow_add-place-2 c = omega (arith, inside (goal.at.overflow_add-place-2 c).In_ok-spotted_at, c.word-part.ensures.small)

pub returns-then-not-has_attributes : goal.returns-then-not-has_attributes
returns-then-not-has_attributes c = linkage_none _ _ _ _ _ _ _ (sym c.spotted_at.ensures ∙ c.in_ok-spotted_at.was) (sym c.has_attributes.ensures ∙ c.if-not-has_attributes.true)

pub returns-in_err-spotted_at : goal.returns-in_err-spotted_at
unfolding linkage_of
returns-in_err-spotted_at c =
    let p = err_from_is_err_and c.from_residual.result c.from_residual.ensures.1 in
    rw (p.1, p.2, sym c.spotted_at.ensures ∙ c.in_err-spotted_at.was)

pub returns : goal.returns
returns c =
    c.ok_or.ensures.value ∙ ap attribute_by c.linkage_in.ensures ∙ linkage_there _ _ _ _ _ _ _
    (sym c.spotted_at.ensures ∙ c.in_ok-spotted_at.was)
    (sym c.has_attributes.ensures ∙ c.if-not-has_attributes.false) _ _ c.word-part.ensures.is
    c.size_at.ensures
