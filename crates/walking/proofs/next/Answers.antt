-- `next` answers `next_of`: stepping in where the element opens a list, else over it, by its size.
use Prim.Native.Nat.{◌+◌}
use mathlib.Core.Path.{sym, ◌∙◌}
use native.Mathlib.Omega.{arith}
use Rattle.words.proofs.Laws.{length_words, lent_below, words_below}
use Rattle.headers.proofs.Laws.{size_small}
use Rattle.walking.proofs.Steps.{opens_shallow, next_by, next_past}
use Rattle.walking.proofs.next.Goals as goal

pub returns-then-file-at : goal.returns-then-file-at
returns-then-file-at c = next_past _ _ (omega (arith, length_words c.args.file.now, c.if-file-at.true))

pub overflow_add-next : goal.overflow_add-next
overflow_add-next c =
    let file = c.args.file.now in
    omega (arith, c.size_at.ensures, size_small file (lent_below file c.type_inv.file) c.args.w.place)

pub overflow_add-ends : goal.overflow_add-ends
overflow_add-ends c =
    let file = c.args.file.now in
    omega (arith, c.extent_at.ensures, words_below file (lent_below file c.type_inv.file) (c.args.w.place + 18))

pub overflow_add-ends-then-opens_list : goal.overflow_add-ends-then-opens_list
overflow_add-ends-then-opens_list c = omega (arith, opens_shallow _ _ _ (sym c.opens_list.ensures ∙ c.if-opens_list.true))

pub offset_bounds-ends-depth : goal.offset_bounds-ends-depth
offset_bounds-ends-depth c = omega (arith, opens_shallow _ _ _ (sym c.opens_list.ensures ∙ c.if-opens_list.true))

pub bounds-ends-depth : goal.bounds-ends-depth
bounds-ends-depth c = omega (arith, opens_shallow _ _ _ (sym c.opens_list.ensures ∙ c.if-opens_list.true))

pub overflow_add-result : goal.overflow_add-result
overflow_add-result c = omega (arith, opens_shallow _ _ _ (sym c.opens_list.ensures ∙ c.if-opens_list.true))

pub returns-then-opens_list : goal.returns-then-opens_list
returns-then-opens_list c =
    rw (c.size_at.ensures, c.extent_at.ensures)
    (next_by _ c.args.w _ (omega (arith, length_words c.args.file.now, c.if-file-at.false))
    (sym c.opens_list.ensures ∙ c.if-opens_list.true))

pub returns : goal.returns
returns c =
    rw (c.closed_to.ensures, c.size_at.ensures)
    (next_by _ c.args.w _ (omega (arith, length_words c.args.file.now, c.if-file-at.false))
    (sym c.opens_list.ensures ∙ c.if-opens_list.false))
