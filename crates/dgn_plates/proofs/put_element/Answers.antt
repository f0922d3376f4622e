-- Each way of the function; the numbers fit, and the places are in the slice.
use Prim.Native.Nat.{ℕ}
use mathlib.Core.Path.{sym, ap, ◌∙◌}
use native.Mathlib.Omega.{arith}
use lib.IntN.{pos}
use lib.ListN.{length-set}
use mir.Syntax.{w64}
use mir.ValLaws.{to_z_pos}
use Rattle.words.specs.Words.{words}
use Rattle.kinds.specs.FirstWord.{deleted_of}
use Rattle.dgn_plates.proofs.Puts.{put_other, put_full, put_one}
use Rattle.dgn_plates.proofs.put_element.Goals as goal

pub returns-then-not-is_cell : goal.returns-then-not-is_cell
returns-then-not-is_cell c =
    let a = c.args in
    put_other (words a.file.now) a.at a.numbers.now a.used (sym c.is_cell.ensures ∙ c.if-not-is_cell.true)

pub returns-then-numbers-first-lt11 : goal.returns-then-numbers-first-lt11
returns-then-numbers-first-lt11 c =
    let a = c.args in
    put_full (words a.file.now) a.at a.numbers.now a.used (sym c.is_cell.ensures ∙ c.if-not-is_cell.false) (omega arith)

pub bounds-numbers-first-2 : goal.bounds-numbers-first-2
bounds-numbers-first-2 c = simp length-set (omega arith)

pub put_cell-requires : goal.put_cell-requires
put_cell-requires c = simp length-set (omega arith)

pub shape_of-numbers : goal.shape_of-numbers
shape_of-numbers c = c.put_cell.auto.numbers ∙ simp length-set

pub returns : goal.returns
returns c =
    let a = c.args in
    put_one (words a.file.now) a.at a.numbers.now a.used (sym c.is_cell.ensures ∙ c.if-not-is_cell.false) c.if-numbers-first-lt11.false _ _ _
    (to_z_pos w64 _ (omega (arith, c.requires)))
    (to_z_pos w64 _ (omega arith) ∙ ap (λ (w : ℕ). pos (deleted_of w)) c.word.ensures.is) c.put_cell.ensures.given
