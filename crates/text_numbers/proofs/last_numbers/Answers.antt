-- Each number fits.
use native.Mathlib.Omega.{arith}
use mir.Syntax.{w64}
use mir.ValLaws.{to_z_pos, to_z-of_z}
use Rattle.text_numbers.proofs.last_numbers.Goals as goal

pub returns : goal.returns
returns c =
    let t = c.args.text in
    rw (
      to_z_pos w64 t.characters (omega arith),
      to_z_pos w64 t.fields (omega arith),
      to_z_pos w64 c.args.start (omega arith),
      to_z-of_z w64 _ (record { sfits = c.odd_number.type_inv }),
      c.odd_number.ensures,
    )
