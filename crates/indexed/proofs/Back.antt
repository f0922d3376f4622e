-- The cells after an undo, by the record that was read; and that counts of cells are small.
use Prim.Native.Nat.{ℕ, zero, suc, ◌+◌, ◌-◌, ◌*◌, ◌/◌, ◌≤◌, min}
use mathlib.Core.Path.{◌≡◌, refl, sym, ap, ap₂, ◌∙◌, subst}
use mathlib.Core.Bool.{Bool, true, false, cond}
use mathlib.Core.List.{List, [], ◌++◌}
use native.Mathlib.Omega.{arith}
use lib.ListN.{length, take, drop, length-append, length-take, length-drop}
use lib.Dec.{ltb}
use Rattle.words.specs.Words.{words}
use Rattle.words.proofs.Laws.{length_words}
use Rattle.kinds.specs.Kinds.{is_cell}
use Rattle.headers.specs.Header.{type_at, size_at}
use Rattle.buffers.proofs.Laws.{part_words}
use Rattle.cells.specs.Cells.{Cell, cell_if, cell_here, cells_from, cells_between}
use Rattle.edits.specs.Calls.{used_words}
use Rattle.journals.specs.Journals.{RecordWithin, LastRead}
use Rattle.undoing.specs.Undoing.{RecordBy}
use Rattle.indexed.specs.Parts.{cells_used, cells_by, MayCount, CellsBack}
use Rattle.std.specs.Prelude.{Option}
use Rattle.journals.specs.LastAnswers.{last_removed}
use Rattle.journals.specs.declared.Last.{Last}

---- no more cells than words and one

if_few : (b : Bool) (c : Cell) → length (cell_if b c) ≤ 1
if_few true c = omega arith
if_few false c = omega arith

here_few : (ws : List ℕ) (at q : ℕ) → length (cell_here ws at q) ≤ 1
unfolding cell_here
here_few ws at q = if_few (is_cell (type_at ws at)) _

from_few : (n : ℕ) (ws : List ℕ) (at end : ℕ) → length (cells_from n ws at end) ≤ n
unfolding cells_from
from_few zero ws at end = omega arith
from_few (suc n) ws at end = go (ltb at end) (from_few n ws (at + size_at ws at) end)
  where
    go : (b : Bool) → length (cells_from n ws (at + size_at ws at) end) ≤ n → length (cond b (cell_here ws at at ++ cells_from n ws (at + size_at ws at) end) []) ≤ suc n
    go true r =
        let a = length-append (cell_here ws at at) (cells_from n ws (at + size_at ws at) end) in
        let h = here_few ws at at in
        omega arith
    go false r = omega arith

pub between_few : (s : List ℕ) (at end : ℕ) → length (cells_between (words s) at end) ≤ length s / 2 + 1
unfolding cells_between
between_few s at end = let l = length_words s in let f = from_few (suc (length (words s))) (words s) at (min end (length (words s))) in omega arith

pub sum_few : (file : List ℕ) (used : ℕ) → length file ≤ 1048576 → (n : ℕ) → n ≡ cells_used file used → (s : List ℕ) (end more : ℕ) → more ≡ length (cells_between (words s) 0 end) →
    n + more ≤ 1048576 + (length s / 2 + 1)
sum_few file used small n is s end more counted =
    let a = between_few (take used file) 0 (length (words (take used file)) - 1) in
    let b = between_few s 0 end in
    let t = length-take used file in
    omega arith

---- by the record

module _ (file : List ℕ) (used : ℕ) (journal : List ℕ) (jused : ℕ) (may : MayCount file used journal jused) (l : Option Last) (learn : RecordBy journal jused l)
    (n : ℕ) (is : n ≡ cells_used file used) where
  read : LastRead (take jused journal) l
  read = learn.within may.jused_within

  abbrev js : List ℕ
  js = used_words journal jused

  by_record : (r : Option Last) → l ≡ r → (k : ℕ) → k ≡ cells_by file used js r → CellsBack file used journal jused k
  by_record r e k f = record { record_is = l; read = read; is = f ∙ ap (cells_by file used js) (sym e) }

  module _ (h p k before : ℕ) (e : l ≡ last_removed h p k before) where
    within : RecordWithin (length (take jused journal)) k p before
    within = (subst (LastRead (take jused journal)) e read).within.1

    pub payload_in : before + 2 * k ≤ length journal
    payload_in = let r = within.room in let t = length-take jused journal in omega arith

    payload_words : words (take (before + 2 * k - before) (drop before journal)) ≡ take k (drop (before / 2) js)
    payload_words =
        let r = within.room in
        let t = length-take jused journal in
        part_words journal jused before (before + 2 * k) k within.even refl (omega arith)

    payload_long : length (take k (drop (before / 2) js)) ≡ k
    payload_long =
        let w = payload_in in
        let x = take (before + 2 * k - before) (drop before journal) in
        let l : length (take (before + 2 * k - before) (drop before journal)) ≡ 2 * k = simp (length-take, length-drop) (omega arith) in
        let m = length_words x in
        ap length (sym payload_words) ∙ (omega arith)

    module _ (more : ℕ) (counted : more ≡ length (cells_between (words (take (before + 2 * k - before) (drop before journal))) 0 k)) where
      pub sum_fits : n + more ≤ 1048576 + (length (take (before + 2 * k - before) (drop before journal)) / 2 + 1)
      sum_fits = sum_few file used may.small n is (take (before + 2 * k - before) (drop before journal)) k more counted

      pub payload_most : length (take (before + 2 * k - before) (drop before journal)) ≤ length journal
      payload_most = let w = payload_in in simp (length-take, length-drop) (omega arith)

      pub back_more : CellsBack file used journal jused (n + more)
      back_more =
          by_record (last_removed h p k before) e (n + more)
          (ap₂ ◌+◌ is (counted ∙ ap (λ x. length (cells_between x 0 k)) payload_words
          ∙ ap (λ m. length (cells_between (take k (drop (before / 2) js)) 0 m)) (sym payload_long)))
