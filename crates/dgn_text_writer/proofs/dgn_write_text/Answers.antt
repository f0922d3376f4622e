-- No room for the answer, no numbers of a text, no header fields, or the writer's own answer (write_answers, proofs/Writing).
use mathlib.Core.Path.{sym, ◌∙◌}
use Rattle.write_answers.proofs.Writing.{given_is, given_not, not_answered, not_given, written}
use Rattle.dgn_text_writer.proofs.Small.{fault_table, fault_given, no_text, no_fields}
use Rattle.dgn_text_writer.proofs.dgn_write_text.Goals as goal

pub returns-then-out-lt1 : goal.returns-then-out-lt1
returns-then-out-lt1 c = not_answered _ _ _ _ _ c.if-out-lt1.true

pub returns-then-not-text_given : goal.returns-then-not-text_given
returns-then-not-text_given c = not_given _ _ _ _ _ (no_text _ _ _ _ _ _ _ (sym c.text_given.ensures ∙ c.if-not-text_given.true)) c.if-out-lt1.false

pub text_of-numbers-requires : goal.text_of-numbers-requires
text_of-numbers-requires c = sym c.text_given.ensures ∙ c.if-not-text_given.false

pub returns-in-Some : goal.returns-in-Some
returns-in-Some c =
    let g = given_is _ _ (sym c.fields_in.ensures ∙ c.in-Some.is) in
    let k = sym c.text_given.ensures ∙ c.if-not-text_given.false in
    written _ _ _ _ _ _ _ _ _ _ (fault_given _ _ _ _ _ _ _ k g.0) (fault_table _ _ _ _ _ _ _) c.if-out-lt1.false (rw (g.1, c.text_of-numbers.ensures) at c.write_text.ensures) c.put_written.ensures

pub returns-in-None : goal.returns-in-None
returns-in-None c =
    not_given _ _ _ _ _ (no_fields _ _ _ _ _ _ _ (sym c.text_given.ensures ∙ c.if-not-text_given.false) (given_not _ (sym c.fields_in.ensures ∙ c.in-None.is))) c.if-out-lt1.false
