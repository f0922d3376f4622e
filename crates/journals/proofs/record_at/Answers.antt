-- Each answer is the record by its kind: one law of `Records` for each way out.
use mathlib.Core.Path.{sym, ◌∙◌}
use Rattle.journals.proofs.Records.{Six, read_bad, read_flag, read_renamed, read_inserted, read_removed}
use Rattle.journals.proofs.record_at.Goals as goal
use Rattle.journals.proofs.record_at.Goals.{After-well_formed-2}

six : (c : After-well_formed-2) → Six c.args.journal.now c.args.t c.args.count c.word-kind.result c.long-header.result c.long-place.result
six c =
    record {
      behind = c.requires.0;
      room = c.requires.1;
      kind_is = c.word-kind.ensures.is;
      header_is = c.long-header.ensures;
      place_is = c.long-place.ensures;
    }

pub returns-then-not-well_formed : goal.returns-then-not-well_formed
returns-then-not-well_formed c = read_bad _ _ _ _ _ _ (six (goal.at.returns-then-not-well_formed c).After-well_formed-2) (sym c.well_formed-2.ensures ∙ c.if-not-well_formed.true)

pub returns-then-kind-eq1 : goal.returns-then-kind-eq1
returns-then-kind-eq1 c = read_flag _ _ _ _ _ _ (six (goal.at.returns-then-kind-eq1 c).After-well_formed-2) (sym c.well_formed-2.ensures ∙ c.if-not-well_formed.false) c.if-kind-eq1.true

pub returns-then-kind-eq2 : goal.returns-then-kind-eq2
returns-then-kind-eq2 c =
    read_renamed _ _ _ _ _ _ (six (goal.at.returns-then-kind-eq2 c).After-well_formed-2)
    (sym c.well_formed-2.ensures ∙ c.if-not-well_formed.false) _ _ c.if-kind-eq2.true
    c.word.ensures c.word-then-kind-eq2.ensures

pub returns-then-kind-eq3 : goal.returns-then-kind-eq3
returns-then-kind-eq3 c = read_inserted _ _ _ _ _ _ (six (goal.at.returns-then-kind-eq3 c).After-well_formed-2) (sym c.well_formed-2.ensures ∙ c.if-not-well_formed.false) c.if-kind-eq3.true

pub returns : goal.returns
returns c = read_removed _ _ _ _ _ _ (six (goal.at.returns c).After-well_formed-2) (sym c.well_formed-2.ensures ∙ c.if-not-well_formed.false) c.if-kind-eq1.false c.if-kind-eq2.false c.if-kind-eq3.false
