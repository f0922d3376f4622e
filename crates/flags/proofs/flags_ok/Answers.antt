-- The size is tested first, and the last word's spare bits by their number of digits, as in the definition.
use mathlib.Core.Path.{◌∙◌}
use Rattle.flags.proofs.Turns.{shifted_out, ok_size, ok_spare}
use Rattle.flags.proofs.flags_ok.Goals as goal

pub returns-then-payload-flag_size : goal.returns-then-payload-flag_size
returns-then-payload-flag_size c = ok_size c.args.payload.now _ _ c.flag_size.ensures c.if-payload-flag_size.true

pub returns : goal.returns
returns c =
    ok_spare c.args.payload.now c.args.n (c.if-payload-flag_size.false ∙ c.flag_size.ensures) _ _ c.word.ensures.is (shifted_out _ _)
