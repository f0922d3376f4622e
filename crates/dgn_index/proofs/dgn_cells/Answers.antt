-- A slice that is too short leaves all; else judging's answer, and of an accepted file the cells up to its marker, which are all (`judged_lists`).
use native.Mathlib.Omega.{arith}
use mathlib.Core.Path.{refl, ap, ap₂, sym, ◌∙◌}
use lib.ListN.{length, length-set}
use Rattle.words.specs.Words.{words}
use Rattle.cells.specs.Cells.{cells_of}
use borrow.Author.Tests.{lt-leb, le-leb}
use Rattle.answers.proofs.Laws.{too_short, answered}
use Rattle.answers.proofs.Refusals.{file_small}
use Rattle.indexing.proofs.Lists.{judged_lists}
use Rattle.dgn_index.specs.IndexNumbers.{cells_reply}
use Rattle.dgn_index.proofs.dgn_cells.Goals as goal

pub returns-then-out-lt4 : goal.returns-then-out-lt4
returns-then-out-lt4 c = record { answer = too_short 4 _ _ c.if-out-lt4.true; entries_are = rw (lt-leb 4 _ c.if-out-lt4.true) refl }

pub overflow_mul-result : goal.overflow_mul-result
overflow_mul-result c = let b = file_small _ _ _ _ (sym c.judge.ensures ∙ c.in-Err.is) in omega arith

pub overflow_add-result : goal.overflow_add-result
overflow_add-result c = let b = file_small _ _ _ _ (sym c.judge.ensures ∙ c.in-Err.is) in omega arith

pub bounds-out-0 : goal.bounds-out-0
bounds-out-0 c = omega arith

pub bounds-out-1 : goal.bounds-out-1
bounds-out-1 c = simp length-set (omega arith)

pub bounds-out-2 : goal.bounds-out-2
bounds-out-2 c = simp length-set (omega arith)

pub bounds-out-3 : goal.bounds-out-3
bounds-out-3 c = simp length-set (omega arith)

pub returns-in-Err : goal.returns-in-Err
returns-in-Err c =
    let q = sym c.judge.ensures ∙ c.in-Err.is in
    record {
      answer = answered 4 _ _ c.args.out.now (ap (λ j. cells_reply j (length (cells_of c.args.dim (words c.args.file.now)))) q) c.if-out-lt4.false;
      entries_are = rw (le-leb 4 _ c.if-out-lt4.false, q) refl;
    }

pub returns-in-Ok : goal.returns-in-Ok
returns-in-Ok c =
    let q = sym c.judge.ensures ∙ c.in-Ok.is in
    let l = judged_lists _ c.args.file.now c.args.entries.now _ _ _ _ _ q c.list_cells-n.ensures in
    record {
      answer = answered 4 _ _ c.args.out.now (ap₂ cells_reply q (sym l.count)) c.if-out-lt4.false;
      entries_are = rw (le-leb 4 _ c.if-out-lt4.false, q) l.bytes;
    }
