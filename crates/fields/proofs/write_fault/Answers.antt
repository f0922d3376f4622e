-- Check by check: those before a return are passed (`pass`) and the one that returns stops there (`stop`), so its number is the
-- first fault.
use mathlib.Core.List.{[]}
use mathlib.Core.Path.{refl, sym, ◌∙◌}
use borrow.Author.Tests.{le-leb, lt-leb}
use Rattle.headers.proofs.Checks.{pass, stop, tail, first}
use Rattle.fields.specs.Faults.{write_fault}
use Rattle.fields.proofs.Bounds.{called}
use Rattle.fields.proofs.write_fault.Goals as goal

pub returns-then-not-arguments_ok : goal.returns-then-not-arguments_ok
unfolding write_fault
returns-then-not-arguments_ok c = first _ (stop (sym c.arguments_ok.ensures ∙ c.if-not-arguments_ok.true))

pub point_number_ok-requires : goal.point_number_ok-requires
point_number_ok-requires c = (called (sym c.arguments_ok.ensures ∙ c.if-not-arguments_ok.false)).dims

pub returns-then-not-point_number_ok : goal.returns-then-not-point_number_ok
unfolding write_fault
returns-then-not-point_number_ok c =
    first _
    (pass (sym c.arguments_ok.ensures ∙ c.if-not-arguments_ok.false)
    (stop (sym c.point_number_ok.ensures ∙ c.if-not-point_number_ok.true)))

pub size_of-size-requires : goal.size_of-size-requires
size_of-size-requires c = record {
  tail_value = sym c.arguments_ok.ensures ∙ c.if-not-arguments_ok.false;
  points_value = sym c.point_number_ok.ensures ∙ c.if-not-point_number_ok.false;
}

pub returns-then-size-gt65535 : goal.returns-then-size-gt65535
unfolding write_fault
returns-then-size-gt65535 c =
    first _
    (pass (sym c.arguments_ok.ensures ∙ c.if-not-arguments_ok.false)
    (pass (sym c.point_number_ok.ensures ∙ c.if-not-point_number_ok.false)
    (stop (rw c.size_of-size.ensures at (lt-leb _ _ c.if-size-gt65535.true)))))

pub linkages_ok-requires : goal.linkages_ok-requires
linkages_ok-requires c = record {
  tail_value = sym c.arguments_ok.ensures ∙ c.if-not-arguments_ok.false;
  points_value = sym c.point_number_ok.ensures ∙ c.if-not-point_number_ok.false;
}

pub returns-then-not-linkages_ok : goal.returns-then-not-linkages_ok
unfolding write_fault
returns-then-not-linkages_ok c =
    first _
    (pass (sym c.arguments_ok.ensures ∙ c.if-not-arguments_ok.false)
    (pass (sym c.point_number_ok.ensures ∙ c.if-not-point_number_ok.false)
    (pass (rw c.size_of-size.ensures at (le-leb _ _ c.if-size-gt65535.false))
    (stop (sym c.linkages_ok.ensures ∙ c.if-not-linkages_ok.true)))))

pub returns-then-room-size : goal.returns-then-room-size
unfolding write_fault
returns-then-room-size c =
    first _
    (pass (sym c.arguments_ok.ensures ∙ c.if-not-arguments_ok.false)
    (pass (sym c.point_number_ok.ensures ∙ c.if-not-point_number_ok.false)
    (pass (rw c.size_of-size.ensures at (le-leb _ _ c.if-size-gt65535.false))
    (pass (sym c.linkages_ok.ensures ∙ c.if-not-linkages_ok.false)
    (stop (rw c.size_of-size.ensures at (lt-leb _ _ c.if-room-size.true)))))))

pub returns : goal.returns
unfolding write_fault
returns c =
    first _
    (pass (sym c.arguments_ok.ensures ∙ c.if-not-arguments_ok.false)
    (pass (sym c.point_number_ok.ensures ∙ c.if-not-point_number_ok.false)
    (pass (rw c.size_of-size.ensures at (le-leb _ _ c.if-size-gt65535.false))
    (pass (sym c.linkages_ok.ensures ∙ c.if-not-linkages_ok.false)
    (pass (rw c.size_of-size.ensures at (le-leb _ _ c.if-room-size.false)) (tail [] refl))))))
