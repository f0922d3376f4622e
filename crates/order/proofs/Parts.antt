-- Calls one after another give what the elements have once each, in file order: each call gives the elements from where the last one
-- stopped, and goes on by one at least where its slices hold an element.
use Prim.Native.Nat.{ℕ, ◌+◌, ◌-◌, ◌<◌, ◌≤◌, min}
use mathlib.Core.Path.{◌≡◌, refl, sym, ap, ap₂, ◌∙◌}
use mathlib.Core.Bool.{Bool, true, false, cond}
use mathlib.Core.List.{List, [], ◌∷◌, ◌++◌}
use native.Mathlib.Nat.{sub-zero}
use native.Mathlib.Omega.{arith}
use lib.ListN.{length, take, drop}
use lib.Seq.{take_all, take-add, drop-drop}
use lib.Dec.{eqb, ltb}
use borrow.Author.Tests.{eqb-true, eqb-false, ltb-true, ltb-false}
use Rattle.files.specs.Spots.{Spot}
use Rattle.order.specs.Parts.{InParts, onward, gained, Called, none, next, holding, GivesAll}

-- a call that is done: it gave what the elements from k up to the next have, and went on where there was one
pub record Gave {G : Type 0} (xs : List Spot) (have : List Spot → G) (k next : ℕ) (got : G) : Type 0 where
  pub on : k ≤ next
  pub by : next ≤ length xs
  pub some : k < length xs → k < next
  pub is : got ≡ have (take (next - k) (drop k xs))

-- what elements have is had one after another
pub record Joins {L G : Type 0} (p : InParts L G) (have : List Spot → G) : Type 0 where
  pub append : (ys zs : List Spot) → have (ys ++ zs) ≡ p.then (have ys) (have zs)
  pub empty : have [] ≡ p.nothing
  pub unit : (g : G) → p.then p.nothing g ≡ g

module _ {L G : Type 0} (p : InParts L G) (xs : List Spot) (have : List Spot → G) where
  -- a call as it is to be: done, it gives its elements; with slices that are long enough it is done
  pub record Step (k : ℕ) (x : L) (n : ℕ) (y : L) : Type 0 where
    pub gives : n ≡ 0 → Gave xs have k (p.next k y) (p.gives y)
    pub done : p.enough x ≡ true → n ≡ 0

  -- what calls from element number k on come to
  record From (k : ℕ) (calls : List L) (got : G) (last : ℕ) : Type 0 where
    on : k ≤ last
    by : last ≤ length xs
    enough : min (length xs) (k + holding p calls) ≤ last
    is : got ≡ have (take (last - k) (drop k xs))

  module _ (joins : Joins p have) (step : (k : ℕ) (x : L) (n : ℕ) (y : L) → k ≤ length xs → p.Answers k x n y → Step k x n y) where
    -- a part and then the rest
    joined : (k i last : ℕ) → k ≤ i → i ≤ last → p.then (have (take (i - k) (drop k xs))) (have (take (last - i) (drop i xs))) ≡ have (take (last - k) (drop k xs))
    joined k i last a b =
        let j : k + (i - k) ≡ i = omega arith in
        let z : i - k + (last - i) ≡ last - k = omega arith in
        ap (λ l. p.then (have (take (i - k) (drop k xs))) (have (take (last - i) l))) (ap (λ h. drop h xs) (sym j) ∙ sym (drop-drop (i - k) k xs))
        ∙ sym (joins.append (take (i - k) (drop k xs)) (take (last - i) (drop (i - k) (drop k xs))))
        ∙ ap have (sym (take-add (i - k) (last - i) (drop k xs)) ∙ ap (λ h. take h (drop k xs)) z)

    from_none : (k : ℕ) → k ≤ length xs → From k [] p.nothing k
    from_none k h =
        let z : k - k ≡ 0 = omega arith in
        record { on = omega arith; by = h; enough = omega arith; is = rw z (sym joins.empty) }

    -- one call and then the others
    from_next : {k : ℕ} {calls : List L} {got all : G} {last : ℕ} (x : L) (n : ℕ) (y : L) → Step k x n y → k ≤ length xs →
        (onward p k n y ≤ length xs → From (onward p k n y) calls got last) → all ≡ p.then (gained p n y) got → From k (x ∷ calls) all last
    from_next {k} {calls} {got} {all} {last} x n y s h rest e = go (eqb n 0) refl rest e
      where
        few : (b : Bool) → cond b 1 0 ≤ 1
        few true = omega arith
        few false = omega arith

        -- a refused call has slices that are too short
        short : (b : Bool) → p.enough x ≡ b → (n ≡ 0 → ⊥) → cond b 1 0 ≤ 0
        short true f z = absurd (z (s.done f))
        short false f z = omega arith

        go : (b : Bool) → eqb n 0 ≡ b → (cond b (p.next k y) k ≤ length xs → From (cond b (p.next k y) k) calls got last) →
            all ≡ p.then (cond b (p.gives y) p.nothing) got → From k (x ∷ calls) all last
        go true q r e =
            let g = s.gives (eqb-true n 0 q) in
            let f = r g.by in
            let a = g.on in
            let b = f.on in
            let c = f.enough in
            let d = g.some in
            let w = few (p.enough x) in
            record {
              on = omega arith;
              by = f.by;
              enough = reached (ltb k (length xs)) refl g f;
              is = e ∙ ap₂ p.then g.is f.is ∙ joined k (p.next k y) last a b;
            }
          where
            reached : (b : Bool) → ltb k (length xs) ≡ b → Gave xs have k (p.next k y) (p.gives y) → From (p.next k y) calls got last →
                min (length xs) (k + (cond (p.enough x) 1 0 + holding p calls)) ≤ last
            reached true q g f = let w = few (p.enough x) in omega (arith, g.some (ltb-true k (length xs) q), f.enough)
            reached false q g f = let w = few (p.enough x) in omega (arith, ltb-false k (length xs) q, g.on, f.enough, f.on)
        go false q r e =
            let f = r h in
            let z = short (p.enough x) refl (eqb-false n 0 q) in
            record { on = f.on; by = f.by; enough = omega (arith, f.enough); is = e ∙ joins.unit got ∙ f.is }

    calls_from : {k : ℕ} {calls : List L} {got : G} {last : ℕ} → Called p k calls got last → k ≤ length xs → From k calls got last
    calls_from {k} none h = from_none k h
    calls_from {k} (next x n y a c e) h = from_next x n y (step k x n y h a) h (λ i. calls_from c i) e

    pub gives_all : {calls : List L} {got : G} {last : ℕ} → Called p 0 calls got last → GivesAll p xs have calls got last
    gives_all {calls} {got} {last} c =
        let f = calls_from c (omega arith) in
        let so_far = f.is ∙ ap (λ n. have (take n xs)) (sub-zero last) in
        record { so_far = so_far; all = λ h. so_far ∙ ap have (take_all last xs (omega (arith, f.enough))) }
