-- `names::unpack` meets its contract: the test is that of `unpacked`, and the words of a stored name are small enough to be taken apart.
use mathlib.Core.Path.{sym, ap, ◌∙◌}
use Rattle.std.specs.Prelude.{Ok}
use Rattle.names.specs.Names.{unpacked}
use Rattle.names.proofs.Stored.{both_ok, word_small}
use Rattle.names.proofs.unpack.Goals as goal

pub name_text-requires : goal.name_text-requires
name_text-requires c =
    let ok = both_ok _ _ (sym c.name_ok.ensures ∙ c.if-name_ok.true) in record { first_bound = word_small _ ok.0; second_bound = word_small _ ok.1 }

pub returns-then-name_ok : goal.returns-then-name_ok
unfolding unpacked
returns-then-name_ok c = simp (sym c.name_ok.ensures, c.if-name_ok.true) (ap Ok c.name_text.ensures)

pub returns-else-name_ok : goal.returns-else-name_ok
unfolding unpacked
returns-else-name_ok c = simp (sym c.name_ok.ensures, c.if-name_ok.false)
