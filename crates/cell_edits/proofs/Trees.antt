-- The number of cells of a tree: that of the tree that stands where a way leads, and that of the way, which corrected totals and
-- counts leave.
use Prim.Native.Nat.{ℕ, ◌+◌}
use mathlib.Core.Path.{◌≡◌, refl, sym, ap, ◌∙◌}
use mathlib.Core.Bool.{Bool, true, false, cond}
use mathlib.Core.List.{List, ◌++◌, append-nil}
use mathlib.Core.Option.{none}
use native.Mathlib.Omega.{arith}
use lib.ListN.{length, length-append}
use lib.Seq.{take-length}
use Rattle.kinds.specs.Kinds.{is_cell}
use Rattle.headers.specs.Header.{type_at}
use Rattle.files.specs.Spots.{spots_of}
use Rattle.grammar.proofs.Forest.{Forest, nil, node, flat, weight, Wf}
use Rattle.grammar.proofs.Stands.{Stands}
use Rattle.edits.proofs.Gaps.{file_stands, file_long}
use Rattle.edits.proofs.Grown.{type_grown}
use Rattle.edits.proofs.Judging.{tree_spots}
use Rattle.edits.proofs.Reversed.{marker}
use Rattle.edits.proofs.Ways.{Way, stop, past, into, plug, direct, lift, Elem}
use Rattle.cells.specs.Cells.{Cell, cell_if, cell_here, cells_of, cells_between, cells_within}
use Rattle.cells.proofs.Trees.{own_cell, tree_cells, spots_cells, between_cells}

-- one for a cell's own words
abbrev pub one : List ℕ → ℕ
one own = cond (is_cell (type_at own 0)) 1 0

abbrev pub number : Forest → ℕ
number nil = 0
number (node own k r) = one own + (number k + number r)

length_own : (at : ℕ) (own : List ℕ) → length (own_cell at own) ≡ one own
unfolding cell_here
length_own at own = go (is_cell (type_at own 0)) _
  where
    go : (b : Bool) (c : Cell) → length (cell_if b c) ≡ cond b 1 0
    go true c = refl
    go false c = refl

pub tree_number : (at : ℕ) (f : Forest) → length (tree_cells at f) ≡ number f
tree_number at nil = refl
tree_number at (node own k r) =
    let a = length-append (own_cell at own) (tree_cells (at + length own) k ++ tree_cells (at + weight own k) r) in
    let b = length-append (tree_cells (at + length own) k) (tree_cells (at + weight own k) r) in
    let c = length_own at own in
    let d = tree_number (at + length own) k in
    let e = tree_number (at + weight own k) r in
    omega arith

---- where a way leads

abbrev pub beside : Way → ℕ
beside stop = 0
beside (past own k w) = one own + (number k + beside w)
beside (into own r w) = one own + (beside w + number r)

pub plug_number : (w : Way) (f : Forest) → number (plug w f) ≡ beside w + number f
plug_number stop f = omega arith
plug_number (past own k w) f = let e = plug_number w f in omega arith
plug_number (into own r w) f = let e = plug_number w f in omega arith

pub lift_number : (up : Bool) (n : ℕ) (w : Way) → beside (lift up n w) ≡ beside w
lift_number up n stop = refl
lift_number up n (past own k w) = rw (lift_number up n w) refl
lift_number up n (into own r w) = rw (type_grown up n (direct w) own, lift_number up n w) refl

---- of a file, and of an element with those under it

pub file_cells : (dim : ℕ) (f : Forest) (ws : List ℕ) → Wf dim 0 0 f → ws ≡ flat f ++ marker → cells_of dim ws ≡ tree_cells 0 f
unfolding cells_of
file_cells dim f ws x e = rw (tree_spots dim f ws x e) (spots_cells dim 0 0 none 0 f ws x (file_stands f ws e))

pub file_number : (dim : ℕ) (f : Forest) (ws : List ℕ) → Wf dim 0 0 f → ws ≡ flat f ++ marker → length (cells_of dim ws) ≡ number f
file_number dim f ws x e = ap length (file_cells dim f ws x e) ∙ tree_number 0 f

pub alone_wf : {dim depth under : ℕ} (own : List ℕ) (k : Forest) → Elem dim depth under own k → Wf dim depth under (node own k nil)
alone_wf own k e = (e.0, e.1, tt)

pub alone_words : (own : List ℕ) (k : Forest) → flat (node own k nil) ≡ own ++ flat k
alone_words own k = ap (λ l. own ++ l) (append-nil (flat k))

pub piece_number : (dim depth under : ℕ) (own : List ℕ) (k : Forest) → Elem dim depth under own k → length (cells_within (own ++ flat k)) ≡ number (node own k nil)
piece_number dim depth under own k e =
    let x = own ++ flat k in
    let same = alone_words own k in
    let s : Stands (flat (node own k nil)) 0 x = rw same (record { is = take-length x }) in
    let n = ap length same in
    let l : 0 + length (flat (node own k nil)) ≡ length x = omega arith in
    ap length (between_cells dim depth under 0 (node own k nil) x (length x) (alone_wf own k e) s l (omega arith)) ∙ tree_number 0 (node own k nil)
