-- Characters and fields are few, so the word that counts them fits a number.
use Prim.Native.Nat.{◌+◌, ◌*◌}
use mathlib.Core.Path.{ap, ◌∙◌}
use native.Mathlib.Omega.{arith}
use Rattle.texts.specs.Texts.{text_part}
use Rattle.text_fields.proofs.words_before_tail.Goals as goal

pub overflow_mul-n : goal.overflow_mul-n
overflow_mul-n c = omega (arith, c.requires.1, c.third-n.ensures)

pub overflow_add-characters : goal.overflow_add-characters
overflow_add-characters c = omega (arith, c.requires.0, c.requires.1, c.third-n.ensures)

pub returns : goal.returns
returns c =
    let a = c.args in
    c.text_part.ensures ∙ ap (λ n. text_part a.dim (a.characters + 256 * n)) c.third-n.ensures
