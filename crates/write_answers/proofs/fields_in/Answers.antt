-- The test decides which case of the definition it is.
use mathlib.Core.Path.{refl, sym, ap, ◌∙◌}
use Rattle.std.specs.Prelude.{Some}
use Rattle.write_answers.proofs.Writing.{given_sixteen}
use Rattle.write_answers.proofs.fields_in.Goals as goal

pub returns-then-not-fields_given : goal.returns-then-not-fields_given
returns-then-not-fields_given c = rw (sym c.fields_given.ensures ∙ c.if-not-fields_given.true) refl

pub fields_of-requires : goal.fields_of-requires
fields_of-requires c = given_sixteen _ (sym c.fields_given.ensures ∙ c.if-not-fields_given.false)

pub returns : goal.returns
returns c = ap Some c.fields_of.ensures ∙ rw (sym c.fields_given.ensures ∙ c.if-not-fields_given.false) refl
