-- The cells of a tree, and that they are those of the file's list of elements and those that sizes alone lead to.
use Prim.Native.Nat.{ℕ, zero, suc, ◌+◌, ◌-◌, ◌≤◌, ◌<◌, min}
use mathlib.Core.Path.{◌≡◌, refl, sym, ap, ◌∙◌, subst}
use mathlib.Core.Bool.{Bool, true, false}
use mathlib.Core.List.{List, [], ◌∷◌, ◌++◌, append_assoc, append-nil}
use mathlib.Core.Option.{Option, some}
use native.Mathlib.Omega.{arith}
use lib.ListN.{length}
use borrow.Author.Tests.{lt-ltb, le-ltb}
use Rattle.words.specs.Words.{word_at}
use Rattle.kinds.specs.Kinds.{is_cell, name_word}
use Rattle.kinds.proofs.Types.{name_early}
use Rattle.headers.specs.Header.{type_at}
use Rattle.headers.proofs.Laws.{own_first, own_second}
use Rattle.files.specs.Spots.{Spot}
use Rattle.grammar.proofs.Tests.{OwnTests}
use Rattle.grammar.proofs.Forest.{Forest, nil, node, flat, weight, Wf, spots, length_node, own_stands, components_stand, rest_stand}
use Rattle.grammar.proofs.Stands.{Stands, stands_word}
use Rattle.grammar.proofs.Rules.{own_two, own_type, own_size}
use Rattle.cells.proofs.Own.{cell_words}
use Rattle.cells.specs.Cells.{Cell, cell_if, cell_here, cells_in, cells_from, cells_between}

-- the cell of own words, where they stand
abbrev pub own_cell : ℕ → List ℕ → List Cell
own_cell at own = cell_here own 0 at

-- the cells of a tree whose list starts at a place
abbrev pub tree_cells : ℕ → Forest → List Cell
tree_cells at nil = []
tree_cells at (node own k r) = own_cell at own ++ (tree_cells (at + length own) k ++ tree_cells (at + weight own k) r)

---- one element

pub cell_same : (b : Bool) {c d : Cell} → (b ≡ true → c ≡ d) → cell_if b c ≡ cell_if b d
cell_same true h = ap (λ c. c ∷ []) (h refl)
cell_same false h = refl

pub cell_of : (a b c d p q : ℕ) → a ≡ c → b ≡ d → p ≡ q → ◌≡◌ {A = Cell} (record { first = a; second = b; place = p }) (record { first = c; second = d; place = q })
cell_of a b c d p q e f g = rw (e, f, g) refl

-- the cell where own words stand is theirs
pub cell_there : {dim depth under inside n : ℕ} {own ws : List ℕ} {at : ℕ} → OwnTests dim depth under own inside n → Stands own at ws → cell_here ws at at ≡ own_cell at own
unfolding cell_here
cell_there {own = own} {ws} {at} o s =
    rw (own_type o s) (cell_same (is_cell (type_at own 0)) (λ c.
    let t = type_at own 0 in
    let l = cell_words o c in
    let e = name_early t in
    cell_of _ _ _ _ at at
    (stands_word s (name_word t) (omega arith) ∙ sym (own_first own))
    (ap (word_at ws) (omega arith) ∙ stands_word s (name_word t + 1) (omega arith) ∙ sym (own_second own))
    refl))

---- the list of elements

cells_append : (ws : List ℕ) (xs ys : List Spot) → cells_in ws (xs ++ ys) ≡ cells_in ws xs ++ cells_in ws ys
cells_append ws [] ys = refl
cells_append ws (x ∷ xs) ys =
    ap (λ l. cell_here ws x.place x.place ++ l) (cells_append ws xs ys)
    ∙ sym (append_assoc (cell_here ws x.place x.place) (cells_in ws xs) (cells_in ws ys))

pub spots_cells : (dim depth under : ℕ) (header : Option ℕ) (at : ℕ) (f : Forest) (ws : List ℕ) → Wf dim depth under f → Stands (flat f) at ws →
    cells_in ws (spots depth header at f) ≡ tree_cells at f
spots_cells dim depth under header at nil ws w s = refl
spots_cells dim depth under header at (node own k r) ws w s =
    rw (
      cell_there w.0 (own_stands own k r s),
      cells_append ws (spots (suc depth) (some at) (at + length own) k) (spots depth header (at + weight own k) r),
      spots_cells dim (suc depth) (type_at own 0) (some at) (at + length own) k ws w.1 (components_stand own k r s),
      spots_cells dim depth under header (at + weight own k) r ws w.2 (rest_stand own k r s),
    ) refl

---- what sizes lead to

module _ (dim : ℕ) (ws : List ℕ) (end : ℕ) where
  -- what is left from a place on, for every bound that is enough
  abbrev Left : ℕ → List Cell → Type 0
  Left at cs = (n : ℕ) → end - at < n → cells_from n ws at end ≡ cs

  left_none : Left end []
  unfolding cells_from
  left_none zero l = refl
  left_none (suc n) l = rw (le-ltb end end (omega arith)) refl

  left_one : {depth under inside m : ℕ} (own : List ℕ) (at : ℕ) (cs : List Cell) → OwnTests dim depth under own inside m → Stands own at ws → at + length own ≤ end →
      Left (at + length own) cs → Left at (own_cell at own ++ cs)
  unfolding cells_from
  left_one own at cs o s l f zero h = absurd (omega arith)
  left_one own at cs o s l f (suc n) h =
      let t = own_two o in
      rw (lt-ltb at end (omega arith), own_size o s, cell_there o s, f n (omega arith)) refl

  left_tree : (depth under at : ℕ) (f : Forest) (to : ℕ) (cs : List Cell) → Wf dim depth under f → Stands (flat f) at ws → at + length (flat f) ≡ to → to ≤ end →
      Left to cs → Left at (tree_cells at f ++ cs)
  left_tree depth under at nil to cs w s e l h = subst (λ p. Left p cs) (omega arith) h
  left_tree depth under at (node own k r) to cs w s e l h =
      let z = length_node own k r in
      subst (Left at) (sym (append_assoc (own_cell at own) _ cs ∙ ap (λ y. own_cell at own ++ y) (append_assoc (tree_cells (at + length own) k) (tree_cells (at + weight own k) r) cs)))
      (left_one own at _ w.0 (own_stands own k r s) (omega arith)
      (left_tree (suc depth) (type_at own 0) (at + length own) k (at + weight own k) _ w.1 (components_stand own k r s) (omega arith) (omega arith)
      (left_tree depth under (at + weight own k) r to cs w.2 (rest_stand own k r s) (omega arith) l h)))

-- the cells between where a tree's words begin and where they end
pub between_cells : (dim depth under at : ℕ) (f : Forest) (ws : List ℕ) (end : ℕ) → Wf dim depth under f → Stands (flat f) at ws → at + length (flat f) ≡ end → end ≤ length ws →
    cells_between ws at end ≡ tree_cells at f
unfolding cells_between
between_cells dim depth under at f ws end w s e l =
    let m : min end (length ws) ≡ end = omega arith in
    rw m (left_tree dim ws end depth under at f end [] w s e (omega arith) (left_none dim ws end) (suc (length ws)) (omega arith) ∙ append-nil (tree_cells at f))
