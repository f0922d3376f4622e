-- Storing the entries of the cells that a walk meets: those stored and those still to come, as many as there is room for, are all.
use Prim.Native.Nat.{ℕ, zero, suc, ◌+◌, ◌-◌, ◌≤◌, ◌<◌, min}
use mathlib.Core.Path.{◌≡◌, refl, sym, ap, ◌∙◌}
use mathlib.Core.Bool.{Bool, true, false, cond}
use mathlib.Core.List.{List, [], ◌∷◌, ◌++◌}
use native.Mathlib.Omega.{arith}
use lib.ListN.{length, take, drop, set}
use borrow.Author.Tests.{lt-ltb, le-ltb}
use Rattle.kinds.specs.Kinds.{is_cell}
use Rattle.headers.specs.Header.{type_at, size_at, name_first, name_second}
use Rattle.cells.specs.Cells.{Cell, cell_if, cell_here, cells_from, cells_between}
use Rattle.cells.specs.Index.{cell_entry, entries_of}
use Rattle.indexing.specs.Indexing.{Met, over}

-- the cells from a place on, up to a place, for every bound that is enough
abbrev pub Left : List ℕ → ℕ → ℕ → List Cell → Type 0
Left ws at end cs = (n : ℕ) → end - at < n → cells_from n ws at end ≡ cs

pub left_none : (ws : List ℕ) (at end : ℕ) → end ≤ at → Left ws at end []
unfolding cells_from
left_none ws at end l zero h = refl
left_none ws at end l (suc n) h = rw (le-ltb at end l) refl

pub left_one : (ws : List ℕ) (at end : ℕ) (cs : List Cell) → at < end → Left ws (at + size_at ws at) end cs → Left ws at end (cell_here ws at at ++ cs)
unfolding cells_from
left_one ws at end cs l f zero h = absurd (omega arith)
left_one ws at end cs l f (suc n) h = rw (lt-ltb at end l, f n (omega arith)) refl

pub left_all : (ws : List ℕ) (to end : ℕ) (cs : List Cell) → end ≡ min to (length ws) → Left ws 0 end cs → cs ≡ cells_between ws 0 to
unfolding cells_between
left_all ws to end cs e f = sym (rw (← e) (f (suc (length ws)) (omega arith)))

-- an entry stored, and those behind it put over what follows
put_over : (i : ℕ) (l : List ℕ) (e : ℕ) (es : List ℕ) → take i l ++ over (e ∷ es) (drop i l) ≡ take (suc i) (set l i e) ++ over es (drop (suc i) (set l i e))
put_over zero [] e [] = refl
put_over zero [] e (x ∷ es) = refl
put_over zero (y ∷ l) e es = refl
put_over (suc i) [] e [] = refl
put_over (suc i) [] e (x ∷ es) = refl
put_over (suc i) (y ∷ l) e es = ap (λ z. y ∷ z) (put_over i l e es)

-- one turn: `over` from entry i on, of the cells that are still to come
pub meets : (ws : List ℕ) (at i : ℕ) (l : List ℕ) (r : ℕ) (m : List ℕ) (cs : List Cell) (all : List ℕ) → Met ws at i l r m →
    all ≡ take i l ++ over (entries_of (cell_here ws at at ++ cs)) (drop i l) → all ≡ take r m ++ over (entries_of cs) (drop r m)
unfolding cell_here
meets ws at i l r m cs all g e = rw (g.next, g.entries) (go (is_cell (type_at ws at)) e)
  where
    c : Cell
    c = record { first = name_first ws at; second = name_second ws at; place = at }

    go : (b : Bool) → all ≡ take i l ++ over (entries_of (cell_if b c ++ cs)) (drop i l)
        → all ≡ take (i + cond b 1 0) (cond b (set l i (cell_entry c)) l) ++ over (entries_of cs) (drop (i + cond b 1 0) (cond b (set l i (cell_entry c)) l))
    go true q = let j : i + 1 ≡ suc i = omega arith in rw j (q ∙ put_over i l (cell_entry c) (entries_of cs))
    go false q = let j : i + 0 ≡ i = omega arith in rw j q

-- and the count
pub met_count : (ws : List ℕ) (at i : ℕ) (l : List ℕ) (r : ℕ) (m : List ℕ) (cs : List Cell) (n : ℕ) → Met ws at i l r m
    → n ≡ i + length (cell_here ws at at ++ cs) → n ≡ r + length cs
unfolding cell_here
met_count ws at i l r m cs n g e = rw g.next (go (is_cell (type_at ws at)) e)
  where
    go : (b : Bool) → n ≡ i + length (cell_if b (record { first = name_first ws at; second = name_second ws at; place = at }) ++ cs) → n ≡ i + cond b 1 0 + length cs
    go true q = omega arith
    go false q = omega arith

-- as many as there are entries in the stead of all
pub over_all : (es l : List ℕ) → length l ≡ length es → over es l ≡ es
over_all [] [] h = refl
over_all [] (x ∷ l) h = absurd (omega arith)
over_all (e ∷ es) [] h = absurd (omega arith)
over_all (e ∷ es) (x ∷ l) h = ap (λ z. e ∷ z) (over_all es l (omega arith))
