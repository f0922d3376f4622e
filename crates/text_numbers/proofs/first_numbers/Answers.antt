-- Each number fits.
use native.Mathlib.Omega.{arith}
use mir.Syntax.{w64}
use mir.ValLaws.{to_z_pos}
use Rattle.text_numbers.proofs.first_numbers.Goals as goal

pub returns : goal.returns
returns c =
    let t = c.args.text in
    rw (to_z_pos w64 t.font (omega arith), to_z_pos w64 t.justification (omega arith), to_z_pos w64 t.length (omega arith), to_z_pos w64 t.height (omega arith))
