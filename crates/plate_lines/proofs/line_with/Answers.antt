-- The letters that are lent are those of the definition, by the contract of the call that unpacked them.
use mathlib.Core.Path.{◌≡◌, sym, ap, ◌∙◌}
use native.Mathlib.Omega.{arith}
use Rattle.lines.specs.Element.{text_length, unpacked_text}
use Rattle.lines.proofs.Names.{at_most_six}
use Rattle.plate_lines.specs.Plate.{line_with}
use Rattle.plate_lines.proofs.line_with.Goals.{in-Ok, in-Err}
use Rattle.plate_lines.proofs.line_with.Goals as goal

pub shared_ref_as_front-letters : goal.shared_ref_as_front-letters
shared_ref_as_front-letters c =
    let is = sym c.unpack-name.ensures ∙ c.in-Ok.is in
    omega (arith, ap text_length is, at_most_six c.args.plate.first c.args.plate.second)

pub returns : goal.returns
unfolding line_with
returns c =
    let letters : c.match-name.letters.now ≡ unpacked_text c.unpack-name.result =
    elim c.match-name.branch [
      | in-Ok w ↦ ap (λ b. b.now) w.letters-is ∙ sym (ap unpacked_text w.in-Ok.is)
      | in-Err w ↦ ap (λ b. b.now) w.letters-is ∙ sym (ap unpacked_text w.in-Err.is)
    ] in
    rw (sym c.unpack-name.ensures, sym letters) c.plate_line.ensures
