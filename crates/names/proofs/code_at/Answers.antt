-- `names::code_at` meets its contract: within the text a code stands where its letter stood, past its end stands 0.
use mathlib.Core.Path.{sym, ◌∙◌}
use mathlib.Core.List.{map}
use lib.ListN.{length-map, get_or-eq_default}
use Rattle.names.specs.Names.{code_of}
use Rattle.names.proofs.Texts.{get_d_mapped}
use Rattle.names.proofs.code_at.Goals as goal

pub returns-then-i-text : goal.returns-then-i-text
returns-then-i-text c =
    c.code_of.ensures ∙
    sym (get_d_mapped code_of c.args.text.now c.args.i c.if-i-text.true)

pub returns-else-i-text : goal.returns-else-i-text
returns-else-i-text c = sym (get_or-eq_default (map code_of c.args.text.now) 0 (simp length-map c.if-i-text.false))
