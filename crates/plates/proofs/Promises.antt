-- The page: what is promised of plates, each with a one-line proof that cites where it is proved.
use Rattle.plates.specs.Promises.{PlateRefused, PlateGiven, CountsAddUp, CountedOnce, LevelsMost, PlateWithin, MarkLowers, PlateLocal}
use Rattle.plates.proofs.Given as goal
use Rattle.plates.proofs.Counts as counts
use Rattle.plates.proofs.Within as within
use Rattle.plates.proofs.Marks as marks
use Rattle.plates.proofs.Local as local

pub plate_refused : PlateRefused
plate_refused = goal.plate_refused

pub plate_given : PlateGiven
plate_given = goal.plate_given

pub counts_add_up : CountsAddUp
counts_add_up = goal.counts_add_up

pub counted_once : CountedOnce
counted_once = counts.counted_once

pub levels_most : LevelsMost
levels_most = goal.levels_few

pub plate_within : PlateWithin
plate_within = within.plate_within

pub mark_lowers : MarkLowers
mark_lowers = marks.mark_lowers

pub plate_local : PlateLocal
plate_local = local.plate_local
