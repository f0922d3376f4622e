-- Check by check: those before a return are passed (`pass`) and the one that returns stops there (`stop`), so its number is the
-- first fault.
use mathlib.Core.Path.{refl, sym, ◌∙◌}
use mathlib.Core.List.{[]}
use native.Mathlib.Omega.{arith}
use borrow.Author.Tests.{le-leb, lt-leb}
use Rattle.headers.proofs.Checks.{pass, stop, tail, first}
use Rattle.text_fields.specs.Words.{text_size}
use Rattle.text_fields.specs.Faults.{text_fault}
use Rattle.text_fields.proofs.Bounds.{called}
use Rattle.text_fields.proofs.Element.{part_bounds, text_linkages}
use Rattle.text_fields.proofs.text_fault.Goals as goal

pub returns-then-not-arguments_ok : goal.returns-then-not-arguments_ok
unfolding text_fault
returns-then-not-arguments_ok c =
    first _ (stop (sym c.arguments_ok.ensures ∙ c.if-not-arguments_ok.true))

pub returns-then-not-triples_ok : goal.returns-then-not-triples_ok
unfolding text_fault
returns-then-not-triples_ok c =
    first _
    (pass (sym c.arguments_ok.ensures ∙ c.if-not-arguments_ok.false)
    (stop (sym c.triples_ok.ensures ∙ c.if-not-triples_ok.true)))

pub words_before_tail-part-requires : goal.words_before_tail-part-requires
words_before_tail-part-requires c =
    let k = called (sym c.arguments_ok.ensures ∙ c.if-not-arguments_ok.false) in (k.lists.few, k.lists.short)

pub overflow_add-size : goal.overflow_add-size
overflow_add-size c =
    let b = part_bounds _ _ _ c.args.characters.now c.args.triples.now c.args.tail.now (called (sym c.arguments_ok.ensures ∙ c.if-not-arguments_ok.false)) in omega (arith, c.words_before_tail-part.ensures, b.1)

pub returns-then-size-gt65535 : goal.returns-then-size-gt65535
unfolding text_fault text_size
returns-then-size-gt65535 c =
    first _
    (pass (sym c.arguments_ok.ensures ∙ c.if-not-arguments_ok.false)
    (pass (sym c.triples_ok.ensures ∙ c.if-not-triples_ok.false)
    (stop (rw c.words_before_tail-part.ensures at (lt-leb _ _ c.if-size-gt65535.true)))))

pub overflow_sub-part : goal.overflow_sub-part
overflow_sub-part c =
    let b = part_bounds _ _ _ c.args.characters.now c.args.triples.now c.args.tail.now (called (sym c.arguments_ok.ensures ∙ c.if-not-arguments_ok.false)) in omega (arith, c.words_before_tail-part.ensures, b.0)

pub returns-then-not-tail_ok : goal.returns-then-not-tail_ok
unfolding text_fault text_size
returns-then-not-tail_ok c =
    first _
    (pass (sym c.arguments_ok.ensures ∙ c.if-not-arguments_ok.false)
    (pass (sym c.triples_ok.ensures ∙ c.if-not-triples_ok.false)
    (pass (rw c.words_before_tail-part.ensures at (le-leb _ _ c.if-size-gt65535.false))
    (stop (sym (text_linkages _ _ _ _ _ _ (called (sym c.arguments_ok.ensures ∙ c.if-not-arguments_ok.false))) ∙ sym (rw c.words_before_tail-part.ensures at c.tail_ok.ensures) ∙ c.if-not-tail_ok.true)))))

pub returns-then-room-size : goal.returns-then-room-size
unfolding text_fault text_size
returns-then-room-size c =
    first _
    (pass (sym c.arguments_ok.ensures ∙ c.if-not-arguments_ok.false)
    (pass (sym c.triples_ok.ensures ∙ c.if-not-triples_ok.false)
    (pass (rw c.words_before_tail-part.ensures at (le-leb _ _ c.if-size-gt65535.false))
    (pass (sym (text_linkages _ _ _ _ _ _ (called (sym c.arguments_ok.ensures ∙ c.if-not-arguments_ok.false))) ∙ sym (rw c.words_before_tail-part.ensures at c.tail_ok.ensures) ∙ c.if-not-tail_ok.false)
    (stop (rw c.words_before_tail-part.ensures at (lt-leb _ _ c.if-room-size.true)))))))

pub returns : goal.returns
unfolding text_fault text_size
returns c =
    first _
    (pass (sym c.arguments_ok.ensures ∙ c.if-not-arguments_ok.false)
    (pass (sym c.triples_ok.ensures ∙ c.if-not-triples_ok.false)
    (pass (rw c.words_before_tail-part.ensures at (le-leb _ _ c.if-size-gt65535.false))
    (pass (sym (text_linkages _ _ _ _ _ _ (called (sym c.arguments_ok.ensures ∙ c.if-not-arguments_ok.false))) ∙ sym (rw c.words_before_tail-part.ensures at c.tail_ok.ensures) ∙ c.if-not-tail_ok.false)
    (pass (rw c.words_before_tail-part.ensures at (le-leb _ _ c.if-room-size.false))
    (tail [] refl))))))
