-- `names::letters_by` meets its contract: the table passes its test, so the entry read has the codes of its place.
use Rattle.names.proofs.Table.{by_entry}
use Rattle.names.proofs.letters_by.Goals as goal

pub returns : goal.returns
returns c =
    by_entry c.args.table.now c.requires.table_value _ _ _ c.first_code-a.ensures c.wide-pair.ensures
