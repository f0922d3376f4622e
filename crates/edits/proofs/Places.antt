-- The list of a tree's elements says of the place that a way leads to which element starts there and which headers are
-- around it; and an element that it has at a place is one that a way leads to.
use Prim.Native.Nat.{ℕ, suc, ◌+◌, ◌≤◌, ◌<◌}
use native.Mathlib.Omega.{arith}
use mathlib.Core.Path.{◌≡◌, refl, sym, ap, ◌∙◌}
use mathlib.Core.Bool.{Bool, true, false, ◌&&◌, and-false}
use mathlib.Core.List.{List, [], ◌∷◌, ◌++◌, append-nil}
use mathlib.Core.Option.{Option, none, some}
use lib.ListN.{length, length-append}
use lib.Dec.{eqb, ltb}
use borrow.Author.Tests.{eqb-true, eqb-false, lt-ltb, le-ltb}
use Rattle.headers.specs.Header.{type_at}
use Rattle.files.specs.Spots.{Spot, spot_in}
use Rattle.grammar.proofs.Forest.{Forest, nil, node, flat, weight, Wf, spots, length_node}
use Rattle.grammar.proofs.Places.{none_some, spot_of, spot_else, spot_first, spot_here, spot_there, spot_after}
use Rattle.edits.specs.Edits.{keep_if, around}
use Rattle.grammar.proofs.Rules.{own_two}
use Rattle.edits.proofs.Ways.{Way, stop, past, into, plug, front, heads, header_of, depth_of, flat_plug, elem_of}

---- lists one after another

around_append : (xs ys : List Spot) (p : ℕ) → around (xs ++ ys) p ≡ around xs p ++ around ys p
around_append [] ys p = refl
around_append (x ∷ xs) ys p = go (ltb x.place p && ltb p x.end) (around_append xs ys p)
  where
    go : (b : Bool) → around (xs ++ ys) p ≡ around xs p ++ around ys p → keep_if b x.place (around (xs ++ ys) p) ≡ keep_if b x.place (around xs p) ++ around ys p
    go true e = ap (λ l. x.place ∷ l) e
    go false e = e

---- one element and those after it

module _ (depth : ℕ) (header : Option ℕ) (at : ℕ) (own : List ℕ) (k r : Forest) (p : ℕ) where
  around_node : (b : Bool) → (ltb at p && ltb p (at + weight own k)) ≡ b →
      around (spots depth header at (node own k r)) p
      ≡ keep_if b at (around (spots (suc depth) (some at) (at + length own) k) p ++ around (spots depth header (at + weight own k) r) p)
  around_node b e =
      let under = spots (suc depth) (some at) (at + length own) k in
      let rest = spots depth header (at + weight own k) r in
      ap (λ t. keep_if t at (around (under ++ rest) p)) e ∙ ap (keep_if b at) (around_append under rest p)

---- nothing of a tree is at or around a place that is not in it

around_before : (depth : ℕ) (header : Option ℕ) (at : ℕ) (f : Forest) (p : ℕ) → p ≤ at → around (spots depth header at f) p ≡ []
around_before depth header at nil p h = refl
around_before depth header at (node own k r) p h =
    around_node depth header at own k r p false (rw (le-ltb at p h) refl)
    ∙ rw (around_before (suc depth) (some at) (at + length own) k p (omega arith), around_before depth header (at + weight own k) r p (omega arith)) refl

around_after : (depth : ℕ) (header : Option ℕ) (at : ℕ) (f : Forest) (p : ℕ) → at + length (flat f) ≤ p → around (spots depth header at f) p ≡ []
around_after depth header at nil p h = refl
around_after depth header at (node own k r) p h =
    let l = length_node own k r in
    around_node depth header at own k r p false (ap (λ b. ltb at p && b) (le-ltb p (at + weight own k) (omega arith)) ∙ and-false (ltb at p))
    ∙ rw (around_after (suc depth) (some at) (at + length own) k p (omega arith), around_after depth header (at + weight own k) r p (omega arith)) refl

module _ (dim : ℕ) where
  ---- the element that a way leads to

  module _ (own₀ : List ℕ) (k₀ f : Forest) where
    pub inside : (depth under : ℕ) (w : Way) → Wf dim depth under (plug w (node own₀ k₀ f)) → length (front w) < length (flat (plug w (node own₀ k₀ f)))
    inside depth under w x =
        let l = own_two (elem_of dim own₀ k₀ f depth under w x).0 in
        rw (flat_plug w (node own₀ k₀ f)) (simp length-append (omega arith))

    pub around_way : (depth under : ℕ) (header : Option ℕ) (w : Way) → Wf dim depth under (plug w (node own₀ k₀ f)) → (at p : ℕ) → p ≡ at + length (front w) →
        around (spots depth header at (plug w (node own₀ k₀ f))) p ≡ heads at w
    around_way depth under header stop x at p e = around_before depth header at (node own₀ k₀ f) p (omega arith)
    around_way depth under header (past own k w) x at p e =
        let l : length (front (past own k w)) ≡ weight own k + length (front w) = simp length-append (omega arith) in
        around_node depth header at own k (plug w (node own₀ k₀ f)) p false (ap (λ b. ltb at p && b) (le-ltb p (at + weight own k) (omega arith)) ∙ and-false (ltb at p))
        ∙ rw (around_after (suc depth) (some at) (at + length own) k p (omega arith)) (around_way depth under header w x.2 (at + weight own k) p (omega arith))
    around_way depth under header (into own r w) x at p e =
        let l : length (front (into own r w)) ≡ length own + length (front w) = length-append own (front w) in
        let t = own_two x.0 in
        let i = inside (suc depth) (type_at own 0) w x.1 in
        around_node depth header at own (plug w (node own₀ k₀ f)) r p true (rw (lt-ltb at p (omega arith), lt-ltb p (at + weight own (plug w (node own₀ k₀ f))) (omega arith)) refl)
        ∙ rw (around_before depth header (at + weight own (plug w (node own₀ k₀ f))) r p (omega arith), around_way (suc depth) (type_at own 0) (some at) w x.1 (at + length own) p (omega arith))
        (ap (λ l. at ∷ l) (append-nil (heads (at + length own) w)))

    pub spot_way : (depth under : ℕ) (header : Option ℕ) (w : Way) → Wf dim depth under (plug w (node own₀ k₀ f)) → (at p : ℕ) → p ≡ at + length (front w) →
        spot_in (spots depth header at (plug w (node own₀ k₀ f))) p ≡ some (spot_of p (weight own₀ k₀) (depth_of depth w) (header_of header at w))
    spot_way depth under header stop x at p e =
        let q : at ≡ p = omega arith in
        spot_here depth header at own₀ k₀ f p q ∙ ap (λ a. some (spot_of a (weight own₀ k₀) depth header)) q
    spot_way depth under header (past own k w) x at p e =
        let l : length (front (past own k w)) ≡ weight own k + length (front w) = simp length-append (omega arith) in
        let t = own_two x.0 in
        spot_there depth header at own k (plug w (node own₀ k₀ f)) p (omega arith)
        ∙ spot_else (spots (suc depth) (some at) (at + length own) k) (spots depth header (at + weight own k) (plug w (node own₀ k₀ f))) p
        (spot_after dim (suc depth) (type_at own 0) (some at) (at + length own) k p x.1 (omega arith))
        ∙ spot_way depth under header w x.2 (at + weight own k) p (omega arith)
    spot_way depth under header (into own r w) x at p e =
        let l : length (front (into own r w)) ≡ length own + length (front w) = length-append own (front w) in
        let t = own_two x.0 in
        spot_there depth header at own (plug w (node own₀ k₀ f)) r p (omega arith)
        ∙ spot_first (spots (suc depth) (some at) (at + length own) (plug w (node own₀ k₀ f))) (spots depth header (at + weight own (plug w (node own₀ k₀ f))) r) p _
        (spot_way (suc depth) (type_at own 0) (some at) w x.1 (at + length own) p (omega arith))

---- every element of the list is one that a way leads to

pub record Found (f : Forest) (at p : ℕ) : Type 0 where
  pub way : Way
  pub own : List ℕ
  pub components : Forest
  pub rest : Forest
  pub tree : f ≡ plug way (node own components rest)
  pub place : p ≡ at + length (front way)

found_past : (own : List ℕ) (k r : Forest) {at p : ℕ} → Found r (at + weight own k) p → Found (node own k r) at p
found_past own k r {at} g = record {
  way = past own k g.way;
  own = g.own;
  components = g.components;
  rest = g.rest;
  tree = ap (node own k) g.tree;
  place = let e = g.place in simp length-append (omega arith);
}

found_into : (own : List ℕ) (k r : Forest) {at p : ℕ} → Found k (at + length own) p → Found (node own k r) at p
found_into own k r {at} g = record {
  way = into own r g.way;
  own = g.own;
  components = g.components;
  rest = g.rest;
  tree = ap (λ t. node own t r) g.tree;
  place = let e = g.place in simp length-append (omega arith);
}

pub found_in : (depth : ℕ) (header : Option ℕ) (at : ℕ) (f : Forest) (p : ℕ) (x : Spot) → spot_in (spots depth header at f) p ≡ some x → Found f at p
found_in depth header at nil p x e = absurd (none_some e)
found_in depth header at (node own k r) p x e =
    go (eqb at p) refl (spot_in (spots (suc depth) (some at) (at + length own) k) p) refl
    (found_in (suc depth) (some at) (at + length own) k p) (found_in depth header (at + weight own k) r p x)
  where
    go : (b : Bool) → eqb at p ≡ b → (s : Option Spot) → spot_in (spots (suc depth) (some at) (at + length own) k) p ≡ s →
        ((y : Spot) → spot_in (spots (suc depth) (some at) (at + length own) k) p ≡ some y → Found k (at + length own) p) →
        (spot_in (spots depth header (at + weight own k) r) p ≡ some x → Found r (at + weight own k) p) → Found (node own k r) at p
    go true q s d i j = record { way = stop; own = own; components = k; rest = r; tree = refl; place = let z = eqb-true at p q in omega arith }
    go false q (some y) d i j = found_into own k r (i y d)
    go false q none d i j = found_past own k r
        (j (sym (spot_there depth header at own k r p (eqb-false at p q)
        ∙ spot_else (spots (suc depth) (some at) (at + length own) k) (spots depth header (at + weight own k) r) p d) ∙ e))
