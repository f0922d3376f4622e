-- Each element of an accepted file has the C that its depth asks, so one that by its C is no component is at the top.
use Prim.Native.Nat.{ℕ, zero, suc, ◌+◌, ◌-◌}
use mathlib.Core.Path.{◌≡◌, refl, sym, ◌∙◌, subst}
use mathlib.Core.Logic.{inr}
use mathlib.Core.Bool.{Bool, true, false, cond, not, false≢true}
use mathlib.Core.List.{List, [], ◌∷◌, ◌++◌}
use mathlib.Core.Option.{Option, none, some}
use native.Mathlib.Omega.{arith}
use lib.ListN.{length, drop}
use lib.Dec.{eqb}
use borrow.Author.Tests.{eq-eqb, ne_eqb, eqb-true, eqb-false, not-true}
use Rattle.words.specs.Words.{words, word_at}
use Rattle.kinds.specs.FirstWord.{c_of, type_of}
use Rattle.headers.specs.Header.{type_at}
use Rattle.headers.specs.Flags.{place_ok}
use Rattle.files.specs.Judge.{judge_of}
use Rattle.files.specs.Spots.{Spot, spots_of}
use Rattle.grammar.proofs.Forest.{Forest, nil, node, flat, Wf, spots, weight, own_stands, components_stand, rest_stand}
use Rattle.grammar.proofs.Stands.{Stands, stands_first}
use Rattle.grammar.proofs.Whole.{file_tree}
use Rattle.grammar.proofs.Exact.{accepted_is}
use Rattle.order.specs.Order.{place_of}
use Rattle.dgn_all_views.specs.Tour.{TopBefore}
use Rattle.files.specs.Accepted.{accepted_with}

abbrev pub Placed : List ℕ → List Spot → Type 0
Placed ws [] = Unit {0}
Placed ws (x ∷ xs) = (place_ok x.depth (word_at ws x.place) ≡ true) × Placed ws xs

placed_append : (ws : List ℕ) (xs ys : List Spot) → Placed ws xs → Placed ws ys → Placed ws (xs ++ ys)
placed_append ws [] ys p q = q
placed_append ws (x ∷ xs) ys p q = (p.0, placed_append ws xs ys p.1 q)

pub placed_drop : (ws : List ℕ) (xs : List Spot) (k : ℕ) → Placed ws xs → Placed ws (drop k xs)
placed_drop ws xs zero p = p
placed_drop ws [] (suc k) p = tt
placed_drop ws (x ∷ xs) (suc k) p = placed_drop ws xs k p.1

placed_tree : (dim : ℕ) (ws : List ℕ) (d under : ℕ) (header : Option ℕ) (at : ℕ) (f : Forest) → Wf dim d under f → Stands (flat f) at ws → Placed ws (spots d header at f)
placed_tree dim ws d under header at nil w s = tt
placed_tree dim ws d under header at (node own k r) w s =
    let z = w.0.size in
    let inside = spots (suc d) (some at) (at + length own) k in
    let rest = spots d header (at + weight own k) r in (
      rw (stands_first (own_stands own k r s) (omega arith)) w.0.place,
      placed_append ws inside rest
          (placed_tree dim ws (suc d) (type_at own 0) (some at) (at + length own) k w.1 (components_stand own k r s))
          (placed_tree dim ws d under header (at + weight own k) r w.2 (rest_stand own k r s)),
    )

pub file_placed : (dim : ℕ) (s : List ℕ) (e d m : ℕ) → judge_of dim s ≡ accepted_with e d m → Placed (words s) (spots_of dim (words s))
file_placed dim s e d m q =
    let t = file_tree (accepted_is dim s e d m q).file in
    subst (Placed (words s)) t.read (placed_tree dim (words s) 0 0 none 0 t.tree t.wf t.stands)

-- what may not stand under a header is at the top
pub no_depth : (d w : ℕ) → place_ok d w ≡ true → place_ok 1 w ≡ false → d ≡ 0
unfolding place_ok
no_depth zero w p q = refl
no_depth (suc d) w p q = absurd (false≢true (sym q ∙ rw (ne_eqb (suc d) 0 (λ z. omega arith)) at p))

---- the hop

-- one element more, of number i
pub top_turn : (ws : List ℕ) (i at place number : ℕ) (b : Bool) (p n : ℕ) → TopBefore ws (i - 1) (record { number = number; place = place }) → at ≡ place_of ws i →
    b ≡ not (place_ok 1 (word_at ws at)) → p ≡ cond b at place → n ≡ cond b i number → TopBefore ws i (record { number = n; place = p })
top_turn ws i at place number true p n t a q x y =
    let f : place_ok 1 (word_at ws at) ≡ false = not-true (place_ok 1 (word_at ws at)) (sym q) in
    rw (x, y) (record { upto = omega arith; at_place = a; top = inr f })
top_turn ws i at place number false p n t a q x y =
    let u = t.upto in
    rw (x, y) (record { upto = omega arith; at_place = t.at_place; top = t.top })

-- C clear, and another type than 9
module _ (w : ℕ) where
  pub type_nine : type_of w ≡ 9 → false ≡ not (place_ok 1 w)
  unfolding place_ok
  type_nine e = rw (eq-eqb (type_of w) 9 e) refl

  pub c_clear : (type_of w ≡ 9 → ⊥) → eqb (c_of w) 0 ≡ not (place_ok 1 w)
  unfolding place_ok
  c_clear e = rw (ne_eqb (type_of w) 9 e) (go (eqb (c_of w) 0) refl)
    where
      go : (b : Bool) → eqb (c_of w) 0 ≡ b → b ≡ not (eqb (c_of w) 1)
      go true q = let z = eqb-true (c_of w) 0 q in rw (ne_eqb (c_of w) 1 (λ y. omega arith)) refl
      go false q = let z = eqb-false (c_of w) 0 q in rw (eq-eqb (c_of w) 1 (omega arith)) refl
