-- The turn and the origin of the dimension stand behind the multipliers (`numbers_laid`).
use mathlib.Core.Path.{ap, ◌∙◌}
use native.Mathlib.Omega.{arith}
use Rattle.writer.specs.Writing.{laid}
use Rattle.text_writer.proofs.Laid.{turn_words, solid_else, length_turn, numbers_laid}
use Rattle.text_writer.proofs.put_numbers.Goals as goal

pub put_flat-requires : goal.put_flat-requires
put_flat-requires c =
    (omega (arith, length_turn _ c.args.text c.requires.1.0 2 c.if-dim-eq2.true, c.put_size.auto, c.requires.0), c.requires.1.1)

pub returns-then-dim-eq2 : goal.returns-then-dim-eq2
returns-then-dim-eq2 c =
    c.put_flat.ensures ∙ ap (λ x. laid x 23 (turn_words 2 c.args.text)) c.put_size.ensures ∙ numbers_laid _ c.args.text c.requires.1.0 2 c.if-dim-eq2.true _ c.requires.0

pub put_solid-requires : goal.put_solid-requires
put_solid-requires c =
    (omega (arith, length_turn _ c.args.text c.requires.1.0 3 (solid_else _ c.args.text c.requires.1.0 c.if-dim-eq2.false), c.put_size.auto, c.requires.0), c.requires.1.1)

pub returns : goal.returns
returns c =
    c.put_solid.ensures ∙ ap (λ x. laid x 23 (turn_words 3 c.args.text)) c.put_size.ensures ∙ numbers_laid _ c.args.text c.requires.1.0 3 (solid_else _ c.args.text c.requires.1.0 c.if-dim-eq2.false) _ c.requires.0
