-- Each part is put behind the one before it (`kind_put`).
use mathlib.Core.Path.{◌≡◌, sym}
use native.Mathlib.Omega.{arith}
use lib.ListN.{length, length-set}
use mir.Syntax.{w64}
use mir.ValLaws.{to_z-of_z}
use Rattle.view_numbers.proofs.Laws.{kind_put, signed_fits}
use Rattle.view_numbers.proofs.put_kind.Goals as goal
use Rattle.view_numbers.proofs.put_kind.Goals.{After-put_signed-5}

same : (c : After-put_signed-5) → length c.put_signed-5.new.out ≡ length c.args.out.now
same c =
    omega (
      arith,
      c.put_signed.auto,
      c.put_signed-2.auto,
      c.put_signed-3.auto,
      c.put_signed-4.auto,
      c.put_signed-5.auto,
    )

pub overflow_add-at-5 : goal.overflow_add-at-5
overflow_add-at-5 c = omega (arith, c.requires)

pub offset_bounds-out-at : goal.offset_bounds-out-at
offset_bounds-out-at c = omega (arith, c.requires)

pub bounds-out-at : goal.bounds-out-at
bounds-out-at c = omega (arith, same (goal.at.bounds-out-at c).After-put_signed-5, c.requires)

pub shape_of-out : goal.shape_of-out
shape_of-out c = simp length-set (omega (arith, same (goal.at.shape_of-out c).After-put_signed-5))

pub returns : goal.returns
returns c =
    let a = c.args in
    rw (
      c.as_signed.ensures,
      to_z-of_z w64 _ (signed_fits a.place),
      c.put_signed-5.ensures,
      c.number_numbers-3.ensures,
      c.put_signed-4.ensures,
      c.number_numbers-2.ensures,
      c.put_signed-3.ensures,
      c.name_numbers.ensures,
      c.put_signed-2.ensures,
      c.number_numbers.ensures,
      c.put_signed.ensures,
      c.display_numbers.ensures,
    )
    (sym (kind_put a.out.now a.at a.place a.element))
