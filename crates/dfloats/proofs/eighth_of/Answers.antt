-- The rounding as one sum and one cut (`eighth_is`).
use mathlib.Core.Path.{sym}
use Rattle.dfloats.proofs.Rounding.{eighth_is}
use Rattle.dfloats.proofs.eighth_of.Goals as goal

pub returns : goal.returns
returns c = sym (eighth_is c.args.m)
