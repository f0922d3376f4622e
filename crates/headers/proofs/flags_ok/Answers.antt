-- The two bits as one number: it is the one wanted, or type 9 decides.
use Rattle.headers.proofs.Laws.{flags_met, flags_unmet}
use mathlib.Core.Path.{sym, ◌∙◌}
use Rattle.headers.proofs.flags_ok.Goals as goal

pub pick-requires : goal.pick-requires
pick-requires c = tt

pub returns-then-w-pick : goal.returns-then-w-pick
returns-then-w-pick c = sym (flags_met (c.args.w) (c.args.depth) (c.if-w-pick.true ∙ c.pick.ensures))

pub type_of-requires : goal.type_of-requires
type_of-requires c = tt

pub returns : goal.returns
returns c = rw (c.type_of.ensures) (sym (flags_unmet (c.args.w) (c.args.depth) (λ e. c.if-w-pick.false (e ∙ sym (c.pick.ensures)))))
