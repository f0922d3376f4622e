-- By the answer, and whether the place fits.
use mathlib.Core.Path.{sym, ◌∙◌}
use native.Mathlib.Omega.{arith}
use mir.Syntax.{w64}
use mir.ValLaws.{to_z_pos}
use Rattle.words.specs.Words.{words}
use Rattle.dgn_ranges.proofs.Puts.{put_none, put_full, put_place}
use Rattle.dgn_ranges.proofs.put_element.Goals as goal

pub returns-then-unwrap_or : goal.returns-then-unwrap_or
returns-then-unwrap_or c =
    let a = c.args in
    put_none a.dim (words a.file.now) a.at a.places.now a.used _ c.in_range_in.ensures (sym c.unwrap_or.ensures ∙ c.if-unwrap_or.true)

pub returns-then-places-used : goal.returns-then-places-used
returns-then-places-used c =
    let a = c.args in
    put_full a.dim (words a.file.now) a.at a.places.now a.used _ c.in_range_in.ensures (sym c.unwrap_or.ensures ∙ c.if-unwrap_or.false) c.if-places-used.true

pub returns : goal.returns
returns c =
    let a = c.args in
    put_place a.dim (words a.file.now) a.at a.places.now a.used _ c.in_range_in.ensures (sym c.unwrap_or.ensures ∙ c.if-unwrap_or.false) c.if-places-used.false
    _ (to_z_pos w64 _ (omega (arith, c.requires)))
