-- No room for the answer, no header fields, or the writer's own answer (write_answers, proofs/Writing).
use mathlib.Core.Path.{sym, ◌∙◌}
use Rattle.write_answers.proofs.Writing.{given_is, given_not, not_answered, not_given, written}
use Rattle.dgn_writer.proofs.Small.{fault_table, fault_given, fault_none}
use Rattle.dgn_writer.proofs.dgn_write.Goals as goal

pub returns-then-out-lt1 : goal.returns-then-out-lt1
returns-then-out-lt1 c = not_answered _ _ _ _ _ c.if-out-lt1.true

pub returns-in-Some : goal.returns-in-Some
returns-in-Some c =
    let g = given_is _ _ (sym c.fields_in.ensures ∙ c.in-Some.is) in
    written _ _ _ _ _ _ _ _ _ _ (fault_given _ _ _ _ _ g.0) (fault_table _ _ _ _ _) c.if-out-lt1.false (rw g.1 at c.write.ensures) c.put_written.ensures

pub returns-in-None : goal.returns-in-None
returns-in-None c =
    not_given _ _ _ _ _ (fault_none _ _ _ _ _ (given_not _ (sym c.fields_in.ensures ∙ c.in-None.is))) c.if-out-lt1.false
