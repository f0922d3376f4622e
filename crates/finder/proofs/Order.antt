-- File order: each element starts where the own words of the one before it end, whether it is its first component, its
-- next sibling or an element further up.
use Prim.Native.Nat.{ℕ, suc, ◌+◌, ◌*◌, ◌≤◌}
use mathlib.Core.Path.{◌≡◌, refl, subst}
use mathlib.Core.List.{List, [], ◌∷◌, ◌++◌}
use mathlib.Core.Option.{Option, none, some}
use native.Mathlib.Omega.{arith}
use lib.ListN.{length}
use Rattle.words.specs.Words.{words}
use Rattle.headers.specs.Header.{size_at}
use Rattle.files.specs.Judge.{judge_of}
use Rattle.files.specs.Spots.{Spot, spots_of}
use Rattle.finder.specs.Look.{InOrder}
use Rattle.grammar.proofs.Forest.{Forest, nil, node, flat, Wf, spots, weight, length_node, own_stands, components_stand, rest_stand}
use Rattle.grammar.proofs.Stands.{Stands}
use Rattle.grammar.proofs.Rules.{own_size}
use Rattle.grammar.proofs.Whole.{file_tree}
use Rattle.grammar.proofs.Exact.{accepted_is}
use Rattle.files.specs.Accepted.{accepted_with}

pub order_append : (ws : List ℕ) (at mid end : ℕ) (xs ys : List Spot) → InOrder ws at xs mid → InOrder ws mid ys end → InOrder ws at (xs ++ ys) end
order_append ws at mid end [] ys p q = rw p q
order_append ws at mid end (x ∷ xs) ys p q = (p.0, order_append ws (at + size_at ws at) mid end xs ys p.1 q)

-- every element has two words at least
pub order_room : (ws : List ℕ) (at end : ℕ) (xs : List Spot) → InOrder ws at xs end → at + 2 * length xs ≤ end
order_room ws at end [] p = omega arith
order_room ws at end (x ∷ xs) p = let h = order_room ws (at + size_at ws at) end xs p.1 in omega arith

-- the elements of a tree follow one another, from where its words stand to their end
pub tree_order : (dim : ℕ) (ws : List ℕ) (depth under : ℕ) (header : Option ℕ) (at end : ℕ) (f : Forest) → Wf dim depth under f → Stands (flat f) at ws →
    at + length (flat f) ≡ end → InOrder ws at (spots depth header at f) end
tree_order dim ws depth under header at end nil w s e = omega arith
tree_order dim ws depth under header at end (node own k r) w s e =
    let l = length_node own k r in
    let inside = tree_order dim ws (suc depth) _ (some at) (at + length own) (at + weight own k) k w.1 (components_stand own k r s) (omega arith) in
    let after = tree_order dim ws depth under header (at + weight own k) end r w.2 (rest_stand own k r s) (omega arith) in
    let under_it = spots (suc depth) (some at) (at + length own) k in
    let after_it = spots depth header (at + weight own k) r in
    (refl, rw (own_size w.0 (own_stands own k r s)) (order_append ws (at + length own) (at + weight own k) end under_it after_it inside after))

---- an accepted file

-- a hop by size from 0 meets every element, and then the marker
pub file_order : (dim : ℕ) (s : List ℕ) (e d m : ℕ) → judge_of dim s ≡ accepted_with e d m → InOrder (words s) 0 (spots_of dim (words s)) m
file_order dim s e d m q =
    let t = file_tree (accepted_is dim s e d m q).file in
    let l = t.end in
    subst (λ xs. InOrder (words s) 0 xs m) t.read (tree_order dim (words s) 0 0 none 0 m t.tree t.wf t.stands (omega arith))
