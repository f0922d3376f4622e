-- The cells listed in a buffer: its whole entries are lent, and bytes that are nothing but entries are theirs.
use Prim.Native.Nat.{ℕ, ◌*◌, ◌/◌, ◌%◌, ◌≤◌, ◌<◌}
use mathlib.Core.Path.{◌≡◌, refl, ap, ◌∙◌}
use mathlib.Core.Bool.{true, and-eq-true_iff}
use mathlib.Core.List.{List, ◌++◌}
use native.Mathlib.Omega.{arith}
use lib.ListN.{length, take, drop}
use lib.Seq.{take_all, length-take-le}
use lib.Dec.{eqb, leb}
use borrow.Author.Tests.{le-leb, lt-leb}
use Rattle.words.specs.Words.{words, Below}
use Rattle.limits.specs.Limits.{dim_ok, size_ok, call_ok}
use Rattle.entries.specs.Entries.{entries}
use Rattle.entries.proofs.Laws.{length_entries, entries_take}
use Rattle.sorting.proofs.Whole.{bytes_of}
use Rattle.files.specs.Judge.{judge_of}
use Rattle.grammar.proofs.Exact.{accepted_is}
use Rattle.cells.specs.Cells.{cells_of}
use Rattle.cells.specs.Index.{entries_of}
use Rattle.cells.proofs.Whole.{judged_cells}
use Rattle.indexing.specs.Indexing.{cells_to, over, listed, Gathered, Lists}
use Rattle.files.specs.Accepted.{accepted_with}

module _ (file : List ℕ) (to : ℕ) (s : List ℕ) where
  pub lists_none : 1048576 < length file → Lists file to s 0 s
  lists_none h = record { count = rw (lt-leb (length file) 1048576 h) refl; bytes = rw (lt-leb (length file) 1048576 h) refl }

  -- e is what `gather` leaves of the whole entries
  pub lists_all : (r : ℕ) (e : List ℕ) → length file ≤ 1048576 → length e ≡ length (take (8 * (length s / 8)) s)
      → Gathered file to (entries (take (8 * (length s / 8)) s)) r (entries e) → Below 256 (e ++ drop (8 * (length s / 8)) s)
      → Lists file to s r (e ++ drop (8 * (length s / 8)) s)
  unfolding listed
  lists_all r e h k g b =
      let n = length s / 8 in
      let l = length_entries s in
      let q = entries_take n s ∙ take_all n (entries s) (omega arith) in
      let w : e ++ drop (8 * n) s ≡ listed (cells_to file to) s =
      ap (λ z. z ++ drop (8 * n) s)
      (bytes_of n e (drop (8 * n) s) (over (entries_of (cells_to file to)) (entries s)) (k ∙ length-take-le (8 * n) s (omega arith))
      (g.entries ∙ ap (over (entries_of (cells_to file to))) q) b) in
      record { count = rw (le-leb (length file) 1048576 h) g.count; bytes = rw (le-leb (length file) 1048576 h) w }

-- a file that is accepted is not above the limit
pub within_limit : (dim : ℕ) (file : List ℕ) (e d m : ℕ) → judge_of dim file ≡ accepted_with e d m → leb (length file) 1048576 ≡ true
unfolding call_ok
within_limit dim file e d m q =
    let c = ((and-eq-true_iff (dim_ok dim) (size_ok (length file))).0 (accepted_is dim file e d m q).call).1 in
    ((and-eq-true_iff (eqb (length file % 2) 0) (leb (length file) 1048576)).0 c).1

-- of such a file the cells up to its marker are all
pub record ListsFile (dim : ℕ) (file s : List ℕ) (r : ℕ) (t : List ℕ) : Type 0 where
  pub count : r ≡ length (cells_of dim (words file))
  pub bytes : t ≡ listed (cells_of dim (words file)) s

pub judged_lists : (dim : ℕ) (file s : List ℕ) (e d m r : ℕ) (t : List ℕ) → judge_of dim file ≡ accepted_with e d m → Lists file m s r t → ListsFile dim file s r t
judged_lists dim file s e d m r t q l =
    let h = within_limit dim file e d m q in
    let c = judged_cells dim file e d m q in
    record { count = l.count ∙ rw (h, c) refl; bytes = l.bytes ∙ rw (h, c) refl }
