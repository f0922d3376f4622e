-- Type 1 has no attributes, every other header may have them.
use mathlib.Core.Path.{sym, ◌∙◌}
use borrow.Author.Tests.{ne_eqb}
use Rattle.words.specs.Words.{words}
use Rattle.kinds.proofs.Types.{header_linked}
use Rattle.elements.proofs.Laws.{linkages_linked, linkages_none}
use Rattle.elements.proofs.linkages_ok.Goals as goal

pub returns-then-t-eq1 : goal.returns-then-t-eq1
returns-then-t-eq1 c = λ dim e. sym (linkages_none dim (words (c.args.s.now)) (c.args.at) (simp (sym (c.requires.t_value.0), c.if-t-eq1.true)))

pub attributes_ok-requires : goal.attributes_ok-requires
attributes_ok-requires c = record { size_value = c.requires.t_value.1; le_size = c.requires.t_value_2.1 }

pub returns : goal.returns
returns c =
    λ dim e. c.attributes_ok.ensures dim e ∙ sym
    (linkages_linked dim (words c.args.s.now) c.args.at
    (rw c.requires.t_value.0 at (header_linked c.args.t c.requires.t_value_2.0 (ne_eqb _ _ c.if-t-eq1.false))))
