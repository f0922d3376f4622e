-- The walk gives the elements of an accepted file, one after another. The one idea: within a list at a depth, the walk
-- keeps where that list and each one around it ends, so that the depth after an element is less by each list that ends
-- with it.
use Prim.Native.Nat.{ℕ, zero, suc, ◌+◌, ◌≤◌, ◌<◌}
use mathlib.Core.Path.{◌≡◌, refl, sym, ap, ◌∙◌, subst}
use mathlib.Core.Bool.{Bool, true, false, ◌&&◌}
use mathlib.Core.List.{List, [], ◌∷◌, ◌++◌, map}
use mathlib.Core.Option.{Option, none, some}
use native.Mathlib.Omega.{arith}
use native.Mathlib.Numerals.{add-one}
use lib.ListN.{length, get_or, set, replicate, length-set}
use lib.Seq.{get_or-set_same, get_or-set_other}
use lib.Dec.{ltb}
use borrow.Author.Tests.{lt-ltb, le-ltb}
use Rattle.words.specs.Words.{words}
use Rattle.headers.specs.Header.{type_at, size_at, extent_at}
use Rattle.kinds.specs.Kinds.{is_header}
use Rattle.files.specs.Judge.{judge_of}
use Rattle.files.specs.Spots.{Spot, spots_of}
use Rattle.grammar.proofs.Tests.{OwnTests, Extent}
use Rattle.grammar.proofs.Forest.{Forest, nil, node, flat, Wf, spots, weight, length_node, own_stands, components_stand, rest_stand}
use Rattle.grammar.proofs.Stands.{Stands}
use Rattle.grammar.proofs.Rules.{own_size, own_type, own_extent}
use Rattle.grammar.proofs.Whole.{file_tree}
use Rattle.grammar.proofs.Exact.{accepted_is}
use Rattle.walking.specs.declared.Walk.{Walk}
use Rattle.walking.specs.Walk.{closed_to, opens, next_of, walk_start}
use Rattle.walking.proofs.Steps.{Same, closed_here, closed_out, next_by}
use Rattle.files.specs.Accepted.{accepted_with}

-- from w the walk gives the elements of a list, one after another, and is then at v
abbrev pub Walks : List ℕ → Walk → List Spot → Walk → Type 0
Walks ws w [] v = w ≡ v
Walks ws w (x ∷ xs) v = (w.place ≡ x.place) × ((w.depth ≡ x.depth) × Walks ws (next_of ws w) xs v)

walks_append : (ws : List ℕ) (w u v : Walk) (xs ys : List Spot) → Walks ws w xs u → Walks ws u ys v → Walks ws w (xs ++ ys) v
walks_append ws w u v [] ys p q = subst (λ x. Walks ws x ys v) (sym p) q
walks_append ws w u v (x ∷ xs) ys p q = (p.0, (p.1.0, walks_append ws (next_of ws w) u v xs ys p.1.1 q))

---- the depth after an element

-- a list at a depth ends at `end`, as kept; the top list has no end
abbrev EndsAt : ℕ → List ℕ → ℕ → Type 0
EndsAt zero ends end = Unit {0}
EndsAt (suc d) ends end = get_or ends (suc d) 0 ≡ end

-- what follows before the list's end is of the list
closed_in : (d : ℕ) (ends : List ℕ) (end next : ℕ) → EndsAt d ends end → next < end → closed_to d ends next ≡ d
closed_in zero ends end next e h = refl
closed_in (suc d) ends end next e h = closed_here (suc d) ends next (λ q. omega arith)

same_ends : (d : ℕ) (a b : List ℕ) (end : ℕ) → Same d a b → EndsAt d b end → EndsAt d a end
same_ends zero a b end s e = tt
same_ends (suc d) a b end s e = s (suc d) (omega arith) ∙ e

---- one step

-- a walk by its parts
abbrev at_place : ℕ → ℕ → List ℕ → Walk
at_place place depth ends = record { place = place; depth = depth; ends = ends }

-- the walk at a place between the elements of a list at depth d
abbrev between : ℕ → ℕ → List ℕ → Walk
between place d ends = at_place place (closed_to d ends place) ends

module _ {dim depth under inside n : ℕ} {own ws : List ℕ} {at : ℕ} (o : OwnTests dim depth under own inside n) (s : Stands own at ws) (fits : at + length own ≤ length ws) where
  header_of : (b : Bool) → is_header (type_at ws at) ≡ b → is_header (type_at own 0) ≡ b
  header_of b e = ap is_header (sym (own_type o s)) ∙ e

  -- an element with nothing under it opens none
  opens_not : inside ≡ 0 → opens ws at depth ≡ false
  unfolding opens
  opens_not z = go (ltb depth 8) (is_header (type_at ws at)) refl
    where
      go : (a b : Bool) → is_header (type_at ws at) ≡ b → (a && (b && ltb (size_at ws at) (extent_at ws at))) ≡ false
      go false b e = refl
      go true false e = refl
      go true true e =
          let x = own_extent o s (header_of true e) in
          let y = own_size o s in
          le-ltb (size_at ws at) (extent_at ws at) (omega arith)

  -- one with elements under it is a header, and opens theirs
  opens_so : 0 < inside → depth < 8 → (opens ws at depth ≡ true) × (at + extent_at ws at ≡ at + (length own + inside))
  unfolding opens
  opens_so z l = go (is_header (type_at own 0)) refl o.extent
    where
      go : (b : Bool) → is_header (type_at own 0) ≡ b → Extent b own inside n → (opens ws at depth ≡ true) × (at + extent_at ws at ≡ at + (length own + inside))
      go false e x = absurd (omega arith)
      go true e x =
          let y = own_extent o s e in
          let t = own_size o s in
          (rw (lt-ltb depth 8 l, ap is_header (own_type o s) ∙ e, lt-ltb (size_at ws at) (extent_at ws at) (omega arith)) refl, omega arith)

  -- past an element with nothing under it
  step_over : (ends : List ℕ) → inside ≡ 0 → next_of ws (at_place at depth ends) ≡ between (at + length own) depth ends
  step_over ends z =
      let y = o.size in
      sym (next_by ws (at_place at depth ends) false (omega arith) (opens_not z)) ∙ rw (own_size o s) refl

  -- to the first element under a header
  step_in : (ends : List ℕ) → 0 < inside → depth < 8 →
      next_of ws (at_place at depth ends) ≡ at_place (at + length own) (suc depth) (set ends (suc depth) (at + (length own + inside)))
  step_in ends z l =
      let y = o.size in
      let x = opens_so z l in
      sym (next_by ws (at_place at depth ends) true (omega arith) x.0) ∙ rw (own_size o s, x.1, add-one depth) refl

---- through the elements of a tree

-- the walk from a place of a list at depth d to the list's end gives the elements of xs, and keeps what it knew of the
-- depths up to d
record Through (ws : List ℕ) (d at end : ℕ) (ends : List ℕ) (xs : List Spot) : Type 0 where
  last : List ℕ
  nine : length last ≡ 9
  same : Same d last ends
  walks : Walks ws (between at d ends) xs (between end d last)

-- what a list under a header keeps, its own depth aside, is what the list around it kept
under_same : (d e : ℕ) (last ends : List ℕ) → Same (suc d) last (set ends (suc d) e) → Same d last ends
under_same d e last ends s j h = s j (omega arith) ∙ get_or-set_other ends (suc d) j e 0 (λ q. omega arith)

module _ {dim d under inside n : ℕ} {own ws : List ℕ} {at : ℕ} (o : OwnTests dim d under own inside n) (s : Stands own at ws)
    {end : ℕ} (fits : at + (length own + inside) ≤ end) (in_file : end ≤ length ws) (ends : List ℕ) (around : EndsAt d ends end)
    (x : Spot) (place : x.place ≡ at) (depth : x.depth ≡ d) where
  -- the element itself, and the walk from where its step leads
  first_then : (u v : Walk) (xs : List Spot) → next_of ws (at_place at d ends) ≡ u → Walks ws u xs v → Walks ws (between at d ends) (x ∷ xs) v
  first_then u v xs n t =
      let z = o.size in
      let c = closed_in d ends end at around (omega arith) in
      (sym place, (c ∙ sym depth, subst (λ w. Walks ws w xs v) (sym (ap (λ k. next_of ws (at_place at k ends)) c ∙ n)) t))

  -- an element with nothing under it, then the rest of its list
  through_alone : {xs : List Spot} (mid : ℕ) → inside ≡ 0 → at + length own ≡ mid → Through ws d mid end ends xs → Through ws d at end ends (x ∷ xs)
  through_alone {xs} mid z e after =
      let step = step_over o s (omega arith) ends z ∙ ap (λ p. between p d ends) e in
      record { last = after.last; nine = after.nine; same = after.same; walks = first_then (between mid d ends) (between end d after.last) xs step after.walks }

  -- a header, the elements under it, then the rest of its list
  through_under : {xs ys : List Spot} (mid : ℕ) → 0 < inside → d < 8 → length ends ≡ 9 → at + (length own + inside) ≡ mid →
      (i : Through ws (suc d) (at + length own) mid (set ends (suc d) mid) xs) → Through ws d mid end i.last ys → Through ws d at end ends (x ∷ (xs ++ ys))
  through_under {xs} {ys} mid z l nine e i after =
      let opened = set ends (suc d) mid in
      let kept : get_or opened (suc d) 0 ≡ mid = get_or-set_same ends (suc d) mid 0 (omega arith) in
      let first = between (at + length own) (suc d) opened in
      let here : between mid (suc d) i.last ≡ between mid d i.last =
      ap (λ c. at_place mid c i.last) (closed_out d i.last mid (i.same (suc d) (omega arith) ∙ kept)) in
      let step : next_of ws (at_place at d ends) ≡ first =
      step_in o s (omega arith) ends z l ∙ rw e
      (ap (λ c. at_place (at + length own) c opened) (sym (closed_in (suc d) opened mid (at + length own) kept (omega arith)))) in
      let same = under_same d mid i.last ends i.same in
      record {
        last = after.last;
        nine = after.nine;
        same = λ j h. after.same j h ∙ same j h;
        walks = first_then first (between end d after.last) (xs ++ ys) step
            (walks_append ws first (between mid d i.last) (between end d after.last) xs ys (subst (Walks ws first xs) here i.walks) after.walks);
      }

through_tree : (dim : ℕ) (ws : List ℕ) (d under : ℕ) (header : Option ℕ) (at end : ℕ) (f : Forest) (ends : List ℕ) → Wf dim d under f → Stands (flat f) at ws →
    at + length (flat f) ≡ end → end ≤ length ws → length ends ≡ 9 → EndsAt d ends end → Through ws d at end ends (spots d header at f)
through_tree dim ws d under header at end nil ends w s e l n k =
    record { last = ends; nine = n; same = λ j h. refl; walks = ap (λ p. between p d ends) (omega arith) }
through_tree dim ws d under header at end (node own nil r) ends w s e l n k =
    let m = length_node own nil r in
    through_alone w.0 (own_stands own nil r s) (omega arith) l ends k _ refl refl (at + weight own nil) refl (omega arith)
    (through_tree dim ws d under header (at + weight own nil) end r ends w.2 (rest_stand own nil r s) (omega arith) l n k)
through_tree dim ws d under header at end (node own (node own₁ k₁ r₁) r) ends w s e l n k =
    let m = length_node own (node own₁ k₁ r₁) r in
    let m₁ = length_node own₁ k₁ r₁ in
    let z₁ = w.1.0.size in
    let deep = w.1.0.deep in
    let mid = at + weight own (node own₁ k₁ r₁) in
    let inside = through_tree dim ws (suc d) (type_at own 0) (some at) (at + length own) mid (node own₁ k₁ r₁) (set ends (suc d) mid)
    w.1 (components_stand own (node own₁ k₁ r₁) r s) (omega arith) (omega arith) (length-set ends (suc d) mid ∙ n)
    (get_or-set_same ends (suc d) mid 0 (omega arith)) in
    through_under w.0 (own_stands own (node own₁ k₁ r₁) r s) (omega arith) l ends k _ refl refl mid (omega arith) (omega arith) n refl inside
    (through_tree dim ws d under header mid end r inside.last w.2 (rest_stand own (node own₁ k₁ r₁) r s) (omega arith) l inside.nine
    (same_ends d inside.last ends end (under_same d mid inside.last ends inside.same) k))

---- an accepted file

-- the walk of an accepted file: its elements in file order, and then the marker
pub record FileWalk (ws : List ℕ) (xs : List Spot) (m : ℕ) : Type 0 where
  last : Walk
  walks : Walks ws walk_start xs last
  marker : last.place ≡ m

pub file_walk : (dim : ℕ) (s : List ℕ) (e d m : ℕ) → judge_of dim s ≡ accepted_with e d m → FileWalk (words s) (spots_of dim (words s)) m
file_walk dim s e d m q =
    let t = file_tree (accepted_is dim s e d m q).file in
    let l = t.end in
    let i = t.ends.0 in
    let g = through_tree dim (words s) 0 0 none 0 m t.tree (replicate 9 0) t.wf t.stands (omega arith) (omega arith) refl tt in
    record { last = between m 0 g.last; walks = subst (λ xs. Walks (words s) walk_start xs (between m 0 g.last)) t.read g.walks; marker = refl }

-- the places and depths that n steps of the walk give, and where it then is
abbrev pub walked : ℕ → List ℕ → Walk → List (ℕ × ℕ)
walked zero ws w = []
walked (suc n) ws w = (w.place, w.depth) ∷ walked n ws (next_of ws w)

abbrev pub walked_to : ℕ → List ℕ → Walk → Walk
walked_to zero ws w = w
walked_to (suc n) ws w = walked_to n ws (next_of ws w)

walks_list : (ws : List ℕ) (w v : Walk) (xs : List Spot) → Walks ws w xs v →
    (walked (length xs) ws w ≡ map (λ x. (x.place, x.depth)) xs) × (walked_to (length xs) ws w ≡ v)
walks_list ws w v [] p = (refl, p)
walks_list ws w v (x ∷ xs) p =
    let h = walks_list ws (next_of ws w) v xs p.1.1 in
    (rw (h.0, p.0, p.1.0) refl, h.1)

-- iterating the walk of an accepted file from its start gives, one after another, exactly the place and depth of each
-- element in file order, and after the last one the marker's place
pub walk_is : (dim : ℕ) (s : List ℕ) (e d m : ℕ) → judge_of dim s ≡ accepted_with e d m →
    (walked (length (spots_of dim (words s))) (words s) walk_start ≡ map (λ x. (x.place, x.depth)) (spots_of dim (words s)))
    × ((walked_to (length (spots_of dim (words s))) (words s) walk_start).place ≡ m)
walk_is dim s e d m q =
    let f = file_walk dim s e d m q in
    let h = walks_list (words s) walk_start f.last (spots_of dim (words s)) f.walks in
    (h.0, ap (λ w. w.place) h.1 ∙ f.marker)
