-- A known type, or a raw type, which leaves fewer checks.
use mathlib.Core.Path.{sym, ◌∙◌}
use Rattle.words.specs.Words.{words}
use Rattle.kinds.proofs.Types.{stands_plain}
use Rattle.elements.proofs.Laws.{raw_same}
use Rattle.elements.proofs.simple_fault.Goals as goal

pub is_linked-requires : goal.is_linked-requires
is_linked-requires c = tt

pub plain_fault-requires : goal.plain_fault-requires
plain_fault-requires c = record {
  t_value = c.requires.t_value;
  t_value_2 = (sym c.is_linked.ensures ∙ c.if-is_linked.true, c.requires.t_value_2);
}

pub returns-then-is_linked : goal.returns-then-is_linked
returns-then-is_linked c =
    rw
    (stands_plain c.args.dim c.args.under c.args.t c.requires.t_value_2.0
    (sym c.is_linked.ensures ∙ c.if-is_linked.true))
    c.plain_fault.ensures

pub raw_fault-requires : goal.raw_fault-requires
raw_fault-requires c = tt

pub returns : goal.returns
returns c =
    c.raw_fault.ensures ∙ raw_same c.args.dim c.args.under (words c.args.s.now)
    c.args.at c.args.t c.args.size c.requires.t_value.0 c.requires.t_value_2.0
    (sym c.is_linked.ensures ∙ c.if-is_linked.false)
