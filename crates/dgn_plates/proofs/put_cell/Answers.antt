-- The answer about the plate is a cell, whose numbers are put, or it is none.
use mathlib.Core.Path.{sym, ap, ◌∙◌}
use Rattle.plates.proofs.Within.{in_within}
use Rattle.dgn_plates.specs.Plates.{is_counted, put_from}
use Rattle.dgn_plates.proofs.put_cell.Goals as goal

pub put_plate-requires : goal.put_plate-requires
put_plate-requires c =
    let is = sym c.plate_in.ensures ∙ c.in-Ok.is in
    (c.requires, in_within c.args.file.now (λ i. (c.type_inv.file i).fits) c.args.at _ is)

pub returns-in-Ok : goal.returns-in-Ok
returns-in-Ok c =
    let a = c.args in
    let is = sym c.plate_in.ensures ∙ c.in-Ok.is in
    record { is = sym (ap is_counted is); given = c.put_plate.ensures ∙ sym (ap (put_from a.numbers.now a.from) is) }

pub returns-in-Err : goal.returns-in-Err
returns-in-Err c =
    let a = c.args in
    let is = sym c.plate_in.ensures ∙ c.in-Err.is in
    record { is = sym (ap is_counted is); given = sym (ap (put_from a.numbers.now a.from) is) }
