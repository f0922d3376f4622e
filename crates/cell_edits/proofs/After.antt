-- The number of a file's cells after an edit that is not refused, and after the edit that an undo makes: by counts of the words before
-- it; so whether the index will fit.
use Prim.Native.Nat.{ℕ, ◌-◌, ◌*◌}
use mathlib.Core.Path.{◌≡◌, refl, sym, ap, ◌∙◌}
use mathlib.Core.Bool.{Bool, true, and-eq-true_iff, false≢true}
use mathlib.Core.List.{List}
use mathlib.Core.Option.{Option, none, some}
use native.Mathlib.Omega.{arith}
use lib.ListN.{length, replicate}
use lib.Dec.{leb}
use Rattle.words.specs.Words.{word_at}
use Rattle.files.specs.Spots.{spots_of}
use Rattle.cells.specs.Cells.{cells_of, cells_between}
use Rattle.cells.specs.Index.{index_bytes}
use Rattle.cells.proofs.Trees.{between_cells}
use Rattle.edits.specs.Bits.{word_flags, flags_ok}
use Rattle.edits.specs.Edits.{Edit, mark, rename, insert, remove, restore, extent_places, with_flags, apply}
use Rattle.edits.specs.Allowed.{Fault?, fine, fault, unless, starts_at, flag_differs, mark_fault, restore_fault, edit_fault}
use Rattle.edits.specs.Records.{Rec, reversal, under_its_header, is_fine, reversible}
use Rattle.edits.specs.Calls.{index_fits}
use Rattle.edits.proofs.Accepted.{Accepted}
use Rattle.edits.proofs.Faults.{or_else_fine, unless_fine}
use Rattle.edits.proofs.Flags.{type_flags}
use Rattle.edits.proofs.Gaps.{file_stands, file_long}
use Rattle.edits.proofs.Indexed.{cells_same}
use Rattle.edits.proofs.MarkSound.{flags_spots}
use Rattle.cell_edits.specs.After.{number_after}
use Rattle.cell_edits.proofs.Trees.{file_cells}
use Rattle.cell_edits.proofs.Moves.{insert_number, remove_number, rename_number}

-- the cells of an accepted file are those that sizes alone lead to, up to its marker
pub cells_between_lem : (dim : ℕ) (ws : List ℕ) → Accepted dim ws → cells_of dim ws ≡ cells_between ws 0 (length ws - 1)
cells_between_lem dim ws a =
    let l = file_long a.tree ws a.words in
    file_cells dim a.tree ws a.wf a.words
    ∙ sym (between_cells dim 0 0 0 a.tree ws (length ws - 1) a.wf (file_stands a.tree ws a.words) (omega arith) (omega arith))

-- flags change no cell's number
flags_number : (dim : ℕ) (ws : List ℕ) (p : ℕ) (bs : List Bool) → Accepted dim ws → starts_at (spots_of dim ws) p ≡ true →
    length (cells_of dim (with_flags (extent_places (spots_of dim ws) p) bs ws)) ≡ length (cells_of dim ws)
flags_number dim ws p bs a s =
    cells_same dim (with_flags (extent_places (spots_of dim ws) p) bs ws) ws (type_flags (extent_places (spots_of dim ws) p) bs ws) (flags_spots dim ws p bs a s)

pub number_after_lem : (dim : ℕ) (ws : List ℕ) (e : Edit) → Accepted dim ws → edit_fault dim ws e ≡ fine → length (cells_of dim (apply dim ws e)) ≡ number_after dim ws e
unfolding number_after apply edit_fault mark_fault restore_fault
number_after_lem dim ws (mark p d) a e =
    let q = or_else_fine (unless (starts_at (spots_of dim ws) p) 13) (unless (flag_differs d (word_at ws p)) 14) e in
    flags_number dim ws p (replicate (length (extent_places (spots_of dim ws) p)) d) a (unless_fine (starts_at (spots_of dim ws) p) 13 q.0)
number_after_lem dim ws (rename p x y) a e = rename_number dim ws p x y a e
number_after_lem dim ws (insert h p x) a e = insert_number dim ws h p x a e
number_after_lem dim ws (remove p) a e = let r = remove_number dim ws p a e in omega arith
number_after_lem dim ws (restore p x) a e =
    let q = or_else_fine (unless (starts_at (spots_of dim ws) p) 13) (unless (flags_ok (length (extent_places (spots_of dim ws) p)) x) 19) e in
    flags_number dim ws p (word_flags x) a (unless_fine (starts_at (spots_of dim ws) p) 13 q.0)

fine_of : (f : Fault?) → is_fine f ≡ true → f ≡ fine
fine_of fine q = refl
fine_of (fault n p) q = absurd (false≢true q)

-- a reversal that is allowed is an edit that is not refused
pub reversal_fine : (dim : ℕ) (ws : List ℕ) (r : Rec) → reversible dim ws r ≡ true → edit_fault dim ws (reversal ws r) ≡ fine
unfolding reversible
reversal_fine dim ws r e =
    fine_of (edit_fault dim ws (reversal ws r)) ((and-eq-true_iff (under_its_header (spots_of dim ws) r) (is_fine (edit_fault dim ws (reversal ws r)))).0 e).1

-- whether the index after an edit fits a buffer, by the counts
pub fits_after : (dim : ℕ) (ws : List ℕ) (e : Edit) (n : ℕ) → Accepted dim ws → edit_fault dim ws e ≡ fine →
    index_fits dim (apply dim ws e) (some n) ≡ leb (8 * number_after dim ws e) n
unfolding index_bytes
fits_after dim ws e n a f = ap (λ m. leb (8 * m) n) (number_after_lem dim ws e a f)
