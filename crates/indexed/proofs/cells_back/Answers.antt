-- By the record that was read: as many cells, fewer by those of the extent that goes, or more by those of the payload (Back).
use mathlib.Core.Path.{ap, ◌∙◌}
use native.Mathlib.Omega.{arith}
use Rattle.std.specs.Prelude.{Some}
use Rattle.indexed.proofs.Back.{payload_in, sum_fits, payload_most, back_more}
use Rattle.indexed.proofs.cells_back.Goals as goal

pub overflow_mul-count : goal.overflow_mul-count
overflow_mul-count c =
    omega (arith, payload_in _ _ _ _ (c.requires) _ (c.record_by.ensures) _ (c.cells_used-n.ensures) _ _ _ _ (c.in-Some-Removed.is ∙ ap Some c.in-Some-Removed.field-0-is))

pub overflow_add-before : goal.overflow_add-before
overflow_add-before c =
    omega (arith, payload_in _ _ _ _ (c.requires) _ (c.record_by.ensures) _ (c.cells_used-n.ensures) _ _ _ _ (c.in-Some-Removed.is ∙ ap Some c.in-Some-Removed.field-0-is))

pub slice_bounds-count_cells-end : goal.slice_bounds-count_cells-end
slice_bounds-count_cells-end c =
    payload_in _ _ _ _ (c.requires) _ (c.record_by.ensures) _ (c.cells_used-n.ensures) _ _ _ _ (c.in-Some-Removed.is ∙ ap Some c.in-Some-Removed.field-0-is)

pub overflow_add-result : goal.overflow_add-result
overflow_add-result c =
    omega (
      arith,
      sum_fits _ _ _ _ (c.requires) _ (c.record_by.ensures) _ (c.cells_used-n.ensures) _ _ _ _ (c.in-Some-Removed.is ∙ ap Some c.in-Some-Removed.field-0-is) _ (c.count_cells.ensures),
      payload_most _ _ _ _ (c.requires) _
          (c.record_by.ensures) _ (c.cells_used-n.ensures) _ _ _ _ (c.in-Some-Removed.is ∙ ap Some c.in-Some-Removed.field-0-is) _ (c.count_cells.ensures),
    )

pub returns-in-Some-Removed : goal.returns-in-Some-Removed
returns-in-Some-Removed c =
    back_more _ _ _ _ (c.requires) _ (c.record_by.ensures) _ (c.cells_used-n.ensures) _ _ _ _ (c.in-Some-Removed.is ∙ ap Some c.in-Some-Removed.field-0-is) _ (c.count_cells.ensures)
