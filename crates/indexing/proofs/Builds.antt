-- The filled part in order with zeros behind it is the index.
use Prim.Native.Nat.{ℕ, ◌-◌, ◌*◌, ◌/◌, ◌≤◌}
use mathlib.Core.Path.{◌≡◌, ap, ap₂, ◌∙◌}
use mathlib.Core.List.{List, ◌++◌}
use native.Mathlib.Omega.{arith}
use lib.ListN.{length, take, drop, replicate}
use lib.Seq.{take_at, length-take-le, length_front}
use Rattle.copies.specs.Copies.{cleared}
use Rattle.copies.proofs.Clears.{cleared_rest}
use Rattle.entries.specs.Entries.{entries, image, shown}
use Rattle.entries.proofs.Laws as laws
use Rattle.sorting.specs.Order.{ordered}
use Rattle.sorting.specs.Sorting.{sorted}
use Rattle.sorting.proofs.Laws.{length_ordered}
use Rattle.sorting.proofs.Whole.{sorted_exact}
use Rattle.cells.specs.Index.{entries_of}
use Rattle.cells.proofs.Index.{length_entries}
use Rattle.indexing.specs.Indexing.{cells_to, over, Builds}
use Rattle.indexing.proofs.Fills.{over_all}

module _ (file : List ℕ) (to : ℕ) (s : List ℕ) (n : ℕ) (is : n ≡ 8 * length (cells_to file to)) (h : n ≤ length s) where
  pub part_again : (e : List ℕ) → length e ≡ length (take n s) → length (take n (e ++ drop n s)) ≡ n
  part_again e l = length-take-le n (e ++ drop n s) (let z = length_front s e n l in omega arith)

  -- e is what `gather` leaves of the lent part, which has room for just these entries
  filled : (e : List ℕ) → entries e ≡ over (entries_of (cells_to file to)) (entries (take n s)) → entries e ≡ entries_of (cells_to file to)
  filled e f =
      let a = laws.length_entries (take n s) in
      let b = length-take-le n s h in
      let c = length_entries (cells_to file to) in
      f ∙ over_all (entries_of (cells_to file to)) (entries (take n s)) (omega arith)

  -- and d what the sort leaves of it
  pub builds_done : (e d u : List ℕ) → length e ≡ length (take n s) → entries e ≡ over (entries_of (cells_to file to)) (entries (take n s))
      → length d ≡ length (take n (e ++ drop n s)) → d ≡ sorted (take n (e ++ drop n s))
      → u ≡ cleared (d ++ drop n (e ++ drop n s)) n (length (d ++ drop n (e ++ drop n s))) → Builds file to s n u
  unfolding shown
  builds_done e d u l o k g c =
      let f = filled e o in
      let all = entries_of (cells_to file to) in
      let a : length e ≡ n = l ∙ length-take-le n s h in
      let t = e ++ drop n s in
      let x : take n (e ++ drop n s) ≡ e = take_at e (drop n s) n a in
      let lv : length (d ++ drop n (e ++ drop n s)) ≡ length s = length_front t d n k ∙ length_front s e n l in
      let q : d ≡ image (ordered (entries_of (cells_to file to))) = g ∙ ap sorted x ∙ sorted_exact (n / 8) e (omega arith) ∙ ap (λ z. image (ordered z)) f in
      let z : 8 * length (ordered (entries_of (cells_to file to))) ≡ n = let p = length_ordered all in let y = length_entries (cells_to file to) in omega arith in
      record {
        used = is;
        bytes = rw z (c ∙ cleared_rest (d ++ drop n (e ++ drop n s)) n (omega arith) ∙ ap₂ (λ y m. y ++ replicate (m - n) 0) (take_at d (drop n t) n (k ∙ ap length x ∙ a) ∙ q) lv);
      }
