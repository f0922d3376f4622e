-- An index built afresh that fits its buffer: the buffer keeps its length, and the used length is whole entries within it; as
-- many cells take as many bytes.
use Prim.Native.Nat.{ℕ, ◌+◌, ◌*◌, ◌%◌}
use mathlib.Core.Path.{◌≡◌, refl, sym, ap, ap₂, ◌∙◌}
use mathlib.Core.Bool.{Bool, true, false}
use mathlib.Core.List.{List, [], ◌∷◌}
use mathlib.Core.Option.{Option, none, some}
use native.Mathlib.Omega.{arith}
use lib.ListN.{length, length-append}
use lib.Dec.{leb}
use borrow.Author.Tests.{leb-true, le-leb, eq-eqb}
use Rattle.entries.specs.Entries.{shown}
use Rattle.entries.proofs.Laws.{length_shown}
use Rattle.kinds.specs.Kinds.{is_cell}
use Rattle.headers.specs.Header.{type_at}
use Rattle.files.specs.Spots.{Spot, spots_of}
use Rattle.cells.specs.Cells.{Cell, cell_if, cell_here, cells_in, cells_of}
use Rattle.cells.specs.Index.{index_of, index_bytes}
use Rattle.cells.proofs.Index.{index_bytes_lem}
use Rattle.edits.specs.Calls.{size_of, index_ok, index_fits, afresh}

module _ (dim : ℕ) (ws : List ℕ) where
  pub index_size : (z : Option ℕ) → index_fits dim ws z ≡ true → size_of (afresh dim ws z) ≡ z
  index_size none e = refl
  index_size (some n) e = let l = leb-true (index_bytes dim ws) n e in let b = index_bytes_lem dim ws in ap some (length_shown n (index_of dim ws) (omega arith))

  pub index_ok_lem : (z : Option ℕ) → index_fits dim ws z ≡ true → index_ok (afresh dim ws z) ≡ true
  index_ok_lem none e = refl
  index_ok_lem (some n) e =
      let l = leb-true (index_bytes dim ws) n e in
      let b = index_bytes_lem dim ws in
      let s = length_shown n (index_of dim ws) (omega arith) in
      rw (eq-eqb (index_bytes dim ws % 8) 0 (omega arith)) (le-leb (index_bytes dim ws) (length (shown n (index_of dim ws))) (omega arith))

---- words with the same elements of the same types have as many cells

if_same : (t : Bool) (c d : Cell) → length (cell_if t c) ≡ length (cell_if t d)
if_same true c d = refl
if_same false c d = refl

module _ (a b : List ℕ) (types : (i : ℕ) → type_at a i ≡ type_at b i) where
  here_same : (i : ℕ) → length (cell_here a i i) ≡ length (cell_here b i i)
  unfolding cell_here
  here_same i = rw (types i) (if_same (is_cell (type_at b i)) _ _)

  in_same : (xs : List Spot) → length (cells_in a xs) ≡ length (cells_in b xs)
  in_same [] = refl
  in_same (x ∷ xs) =
      length-append (cell_here a x.place x.place) (cells_in a xs) ∙ ap₂ ◌+◌ (here_same x.place) (in_same xs)
      ∙ sym (length-append (cell_here b x.place x.place) (cells_in b xs))

  cells_same' : (dim : ℕ) → spots_of dim a ≡ spots_of dim b → length (cells_of dim a) ≡ length (cells_of dim b)
  unfolding cells_of
  cells_same' dim e = ap (λ xs. length (cells_in a xs)) e ∙ in_same (spots_of dim b)

pub cells_same : (dim : ℕ) (a b : List ℕ) → ((i : ℕ) → type_at a i ≡ type_at b i) → spots_of dim a ≡ spots_of dim b → length (cells_of dim a) ≡ length (cells_of dim b)
cells_same dim a b types = cells_same' a b types dim

pub fits_same : (dim : ℕ) (a b : List ℕ) (z : Option ℕ) → length (cells_of dim a) ≡ length (cells_of dim b) → index_fits dim a z ≡ true → index_fits dim b z ≡ true
unfolding index_bytes
fits_same dim a b none e f = refl
fits_same dim a b (some n) e f = sym (ap (λ m. leb (8 * m) n) e) ∙ f
