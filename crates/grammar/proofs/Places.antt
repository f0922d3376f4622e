-- The element that starts at a place, in the list of a tree's elements: the elements of a tree lie within its words, so
-- one part of the list has it and the others have none.
use Prim.Native.Nat.{ℕ, suc, ◌+◌, ◌≤◌, ◌<◌}
use mathlib.Core.Path.{◌≡◌, refl, sym, ap, ◌∙◌}
use mathlib.Core.Logic.{◌≢◌}
use mathlib.Core.Bool.{Bool, true, false}
use mathlib.Core.List.{List, [], ◌∷◌, ◌++◌}
use mathlib.Core.Option.{Option, none, some}
use native.Mathlib.Omega.{arith}
use lib.ListN.{length}
use lib.Dec.{eqb}
use borrow.Author.Tests.{eqb-true, eqb-false, eq-eqb, ne_eqb}
use Rattle.headers.specs.Header.{type_at}
use Rattle.files.specs.Spots.{Spot, first_if, spot_in}
use Rattle.grammar.proofs.Forest.{Forest, nil, node, flat, weight, Wf, spots, length_node}

pub none_some : {x : Spot} → ◌≡◌ {A = Option Spot} none (some x) → ⊥
none_some e = let z : ◌≡◌ {A = ℕ} 0 1 = cc in omega arith

-- an element of n words, with its extent, at a place
abbrev pub spot_of : ℕ → ℕ → ℕ → Option ℕ → Spot
spot_of p n depth header = record { place = p; end = p + n; depth = depth; header = header }

---- lists one after another

pub spot_else : (xs ys : List Spot) (p : ℕ) → spot_in xs p ≡ none → spot_in (xs ++ ys) p ≡ spot_in ys p
spot_else [] ys p e = refl
spot_else (x ∷ xs) ys p e = go (eqb x.place p) e (spot_else xs ys p)
  where
    go : (b : Bool) → first_if b x (spot_in xs p) ≡ none → (spot_in xs p ≡ none → spot_in (xs ++ ys) p ≡ spot_in ys p) → first_if b x (spot_in (xs ++ ys) p) ≡ spot_in ys p
    go true e k = absurd (none_some (sym e))
    go false e k = k e

pub spot_first : (xs ys : List Spot) (p : ℕ) (y : Spot) → spot_in xs p ≡ some y → spot_in (xs ++ ys) p ≡ some y
spot_first [] ys p y e = absurd (none_some e)
spot_first (x ∷ xs) ys p y e = go (eqb x.place p) e (spot_first xs ys p y)
  where
    go : (b : Bool) → first_if b x (spot_in xs p) ≡ some y → (spot_in xs p ≡ some y → spot_in (xs ++ ys) p ≡ some y) → first_if b x (spot_in (xs ++ ys) p) ≡ some y
    go true e k = e
    go false e k = k e

-- the other list has none
pub spot_only : (xs ys : List Spot) (p : ℕ) → spot_in ys p ≡ none → spot_in (xs ++ ys) p ≡ spot_in xs p
spot_only xs ys p e = go (spot_in xs p) refl
  where
    go : (o : Option Spot) → spot_in xs p ≡ o → spot_in (xs ++ ys) p ≡ spot_in xs p
    go none q = spot_else xs ys p q ∙ e ∙ sym q
    go (some x) q = spot_first xs ys p x q ∙ sym q

---- one element and those after it

module _ (depth : ℕ) (header : Option ℕ) (at : ℕ) (own : List ℕ) (k r : Forest) (p : ℕ) where
  pub spot_here : at ≡ p → spot_in (spots depth header at (node own k r)) p ≡ some (spot_of at (weight own k) depth header)
  spot_here e =
      let under = spots (suc depth) (some at) (at + length own) k in
      let rest = spots depth header (at + weight own k) r in
      ap (λ b. first_if b (spot_of at (weight own k) depth header) (spot_in (under ++ rest) p)) (eq-eqb at p e)

  pub spot_there : at ≢ p → spot_in (spots depth header at (node own k r)) p
      ≡ spot_in (spots (suc depth) (some at) (at + length own) k ++ spots depth header (at + weight own k) r) p
  spot_there e =
      let under = spots (suc depth) (some at) (at + length own) k in
      let rest = spots depth header (at + weight own k) r in
      ap (λ b. first_if b (spot_of at (weight own k) depth header) (spot_in (under ++ rest) p)) (ne_eqb at p e)

---- no element of a tree is at a place outside its words

pub spot_before : (depth : ℕ) (header : Option ℕ) (at : ℕ) (f : Forest) (p : ℕ) → p < at → spot_in (spots depth header at f) p ≡ none
spot_before depth header at nil p h = refl
spot_before depth header at (node own k r) p h =
    spot_there depth header at own k r p (omega arith)
    ∙ spot_else (spots (suc depth) (some at) (at + length own) k) (spots depth header (at + weight own k) r) p
    (spot_before (suc depth) (some at) (at + length own) k p (omega arith))
    ∙ spot_before depth header (at + weight own k) r p (omega arith)

-- under the first one
pub spot_under : (depth : ℕ) (header : Option ℕ) (at : ℕ) (own : List ℕ) (k r : Forest) (p : ℕ) → at < p → p < at + weight own k →
    spot_in (spots depth header at (node own k r)) p ≡ spot_in (spots (suc depth) (some at) (at + length own) k) p
spot_under depth header at own k r p h l =
    spot_there depth header at own k r p (omega arith)
    ∙ spot_only (spots (suc depth) (some at) (at + length own) k) (spots depth header (at + weight own k) r) p
    (spot_before depth header (at + weight own k) r p l)

module _ (dim : ℕ) where
  pub spot_after : (depth under : ℕ) (header : Option ℕ) (at : ℕ) (f : Forest) (p : ℕ) → Wf dim depth under f → at + length (flat f) ≤ p → spot_in (spots depth header at f) p ≡ none
  spot_after depth under header at nil p w h = refl
  spot_after depth under header at (node own k r) p w h =
      let l = length_node own k r in
      let t = w.0.size in
      spot_there depth header at own k r p (omega arith)
      ∙ spot_else (spots (suc depth) (some at) (at + length own) k) (spots depth header (at + weight own k) r) p
      (spot_after (suc depth) (type_at own 0) (some at) (at + length own) k p w.1 (omega arith))
      ∙ spot_after depth under header (at + weight own k) r p w.2 (omega arith)

  -- among those after the first one
  pub spot_next : (depth under : ℕ) (header : Option ℕ) (at : ℕ) (own : List ℕ) (k r : Forest) (p : ℕ) → Wf dim depth under (node own k r) → at + weight own k ≤ p →
      spot_in (spots depth header at (node own k r)) p ≡ spot_in (spots depth header (at + weight own k) r) p
  spot_next depth under header at own k r p w h =
      let t = w.0.size in
      spot_there depth header at own k r p (omega arith)
      ∙ spot_else (spots (suc depth) (some at) (at + length own) k) (spots depth header (at + weight own k) r) p
      (spot_after (suc depth) (type_at own 0) (some at) (at + length own) k p w.1 (omega arith))

---- the element that is found at a place starts there, and ends within the tree's words

pub record Within (at next p : ℕ) (x : Spot) : Type 0 where
  pub place : x.place ≡ p
  pub from : at ≤ p
  pub long : p < x.end
  pub by : x.end ≤ next

module _ (dim : ℕ) where
  pub spot_within : (depth under : ℕ) (header : Option ℕ) (at : ℕ) (f : Forest) (p : ℕ) (x : Spot) → Wf dim depth under f →
      spot_in (spots depth header at f) p ≡ some x → Within at (at + length (flat f)) p x
  spot_within depth under header at nil p x w e = absurd (none_some e)
  spot_within depth under header at (node own k r) p x w e =
      go (eqb at p) refl (spot_in (spots (suc depth) (some at) (at + length own) k) p) refl
      (λ y. spot_within (suc depth) (type_at own 0) (some at) (at + length own) k p y w.1) (spot_within depth under header (at + weight own k) r p x w.2)
    where
      go : (b : Bool) → eqb at p ≡ b → (o : Option Spot) → spot_in (spots (suc depth) (some at) (at + length own) k) p ≡ o →
          ((y : Spot) → spot_in (spots (suc depth) (some at) (at + length own) k) p ≡ some y → Within (at + length own) (at + length own + length (flat k)) p y) →
          (spot_in (spots depth header (at + weight own k) r) p ≡ some x → Within (at + weight own k) (at + weight own k + length (flat r)) p x) →
          Within at (at + length (flat (node own k r))) p x
      go true q o d i j =
          let l = length_node own k r in
          let t = w.0.size in
          let a = eqb-true at p q in
          let y : spot_of at (weight own k) depth header ≡ x = cc (spot_here depth header at own k r p a) in
          let ye = ap (λ (z : Spot). z.end) y in
          record { place = sym (ap (λ (z : Spot). z.place) y) ∙ a; from = omega arith; long = omega arith; by = omega arith }
      go false q (some y) d i j =
          let l = length_node own k r in
          let t = spot_there depth header at own k r p (eqb-false at p q) in
          let s = spot_first (spots (suc depth) (some at) (at + length own) k) (spots depth header (at + weight own k) r) p y d in
          let a : y ≡ x = cc in
          let v = rw a at (i y d) in
          record { place = v.place; from = let u = v.from in omega arith; long = v.long; by = let u = v.by in omega arith }
      go false q none d i j =
          let l = length_node own k r in
          let t = spot_there depth header at own k r p (eqb-false at p q) in
          let s = spot_else (spots (suc depth) (some at) (at + length own) k) (spots depth header (at + weight own k) r) p d in
          let v = j (sym (t ∙ s) ∙ e) in
          record { place = v.place; from = let u = v.from in omega arith; long = v.long; by = let u = v.by in omega arith }
