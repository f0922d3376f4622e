-- The elements of an extent by sizes alone: in file order an element's own words are followed by the next element, so from the
-- named one on each next place is the last one and its size, up to the extent's end.
use Prim.Native.Nat.{ℕ, zero, suc, ◌+◌, ◌-◌, ◌≤◌, ◌<◌}
use native.Mathlib.Omega.{arith}
use mathlib.Core.Path.{◌≡◌, refl, sym, ap, ◌∙◌, subst}
use mathlib.Core.Bool.{Bool, true, false}
use mathlib.Core.Option.{Option, none, some}
use mathlib.Core.List.{List, [], ◌∷◌, ◌++◌, append-nil, append_assoc}
use lib.ListN.{length}
use lib.Dec.{eqb}
use borrow.Author.Tests.{eqb-true, lt-ltb, le-ltb}
use Rattle.words.specs.Words.{words, Below}
use Rattle.headers.specs.Header.{type_at, size_at}
use Rattle.files.specs.Spots.{Spot, spots_of, first_if, spot_in}
use Rattle.grammar.proofs.Stands.{Stands, stands_word, stands_join}
use Rattle.grammar.proofs.Forest.{Forest, nil, node, flat, weight, Wf, length_node, own_stands, components_stand, rest_stand}
use Rattle.grammar.proofs.Rules.{own_two}
use Rattle.edits.specs.Edits.{extent_places, extent_in, spot_words}
use Rattle.edits.specs.Allowed.{is_some, starts_at}
use Rattle.edits.proofs.Accepted.{Accepted}
use Rattle.edits.proofs.Ways.{plug, front, depth_of, type_over, elem_of}
use Rattle.edits.proofs.Raised.{stands_way}
use Rattle.edits.proofs.Gaps.{file_stands}
use Rattle.edits.proofs.Reversed.{spot_there, there}
use Rattle.edits.proofs.Extents.{starts}
use Rattle.edits.proofs.MarkSound.{extent_there, extent_within}
use Rattle.places.specs.declared.Above.{Above}
use Rattle.places.specs.Places.{found_by}
use Rattle.places.specs.Descent.{locate_of}
use Rattle.places.proofs.Places.{spot_inside}
use Rattle.opening.proofs.Opening.{AcceptedUsed}
use Rattle.opening.proofs.Accepted.{standing, found_is}
use Rattle.flags.specs.Extents.{places_by, places_in}
use Rattle.flags.proofs.Places.{places_by_lem}
use Rattle.places.specs.Spotted.{spotted_with}
use Rattle.places.specs.declared.Spotted.{Spotted}
use Rattle.refusals.proofs.Laws.{given_not_refused, given_is}

-- the places from a place on, by every bound that is enough
abbrev Left : List ℕ → ℕ → ℕ → List ℕ → Type 0
Left ws end at l = (n : ℕ) → end - at < n → places_by n ws at end ≡ l

left_end : (ws : List ℕ) (at end : ℕ) → end ≤ at → Left ws end at []
unfolding places_by
left_end ws at end h zero l = refl
left_end ws at end h (suc n) l = rw (le-ltb at end h) refl

left_tree : (dim depth under : ℕ) (f : Forest) (ws : List ℕ) (at end : ℕ) (l : List ℕ) → Wf dim depth under f → Stands (flat f) at ws → at + length (flat f) ≤ end →
    Left ws end (at + length (flat f)) l → Left ws end at (starts at f ++ l)
unfolding places_by
left_tree dim depth under nil ws at end l x s h t n b = let e : at + 0 ≡ at = omega arith in (rw e at t) n b
left_tree dim depth under (node own k r) ws at end l x s h t zero b = absurd (omega arith)
left_tree dim depth under (node own k r) ws at end l x s h t (suc n) b =
    let two = own_two x.0 in
    let m = length_node own k r in
    let size : size_at ws at ≡ length own = ap (λ v. v + 2) (stands_word (own_stands own k r s) 1 (omega arith)) ∙ x.0.size in
    let a : at + length own + length (flat k) ≡ at + weight own k = omega arith in
    let c : at + length (flat (node own k r)) ≡ at + weight own k + length (flat r) = omega arith in
    let after = left_tree dim depth under r ws (at + weight own k) end l x.2 (rest_stand own k r s) (omega arith) (rw c at t) in
    let inner = left_tree dim (suc depth) (type_at own 0) k ws (at + length own) end (starts (at + weight own k) r ++ l) x.1 (components_stand own k r s) (omega arith) (rw a after) in
    rw (lt-ltb at end (omega arith), size)
    (ap (λ v. at ∷ v) (inner n (omega arith) ∙ sym (append_assoc (starts (at + length own) k) (starts (at + weight own k) r) l)))

-- the extent of an element of an accepted file
pub extent_places_lem : (dim : ℕ) (ws : List ℕ) (p : ℕ) → Accepted dim ws → starts_at (spots_of dim ws) p ≡ true →
    extent_places (spots_of dim ws) p ≡ places_in ws p (p + extent_in (spots_of dim ws) p)
extent_places_lem dim ws p a e =
    let g = there dim ws p a e in
    let w = g.way in
    let own = g.own in
    let k = g.components in
    let r = g.rest in
    let o = elem_of dim own k r 0 0 w g.wf in
    let q : 0 + length (front w) ≡ p = let h = g.place in omega arith in
    let long : extent_in (spots_of dim ws) p ≡ weight own k = ap spot_words (spot_there dim w own k r ws g.words g.wf p g.place) ∙ (omega arith) in
    let s : Stands (flat (node own k r)) p ws = subst (λ v. Stands (flat (node own k r)) v ws) q (stands_way w (node own k r) 0 ws (file_stands (plug w (node own k r)) ws g.words)) in
    let one : Stands (flat (node own k nil)) p ws = stands_join own (flat k ++ []) (own_stands own k r s) (rw (append-nil (flat k)) (components_stand own k r s)) in
    let m = length_node own k nil in
    let end = p + weight own k in
    let walk =
    left_tree dim (depth_of 0 w) (type_over 0 w) (node own k nil) ws p end [] (o.0, o.1, tt) one (omega arith)
    (left_end ws (p + length (flat (node own k nil))) end (omega arith)) (suc (end - p)) (omega arith) in
    let inside : end ≤ length ws = let i = extent_within dim ws p a e in omega arith in
    extent_there dim w own k r ws p g.place g.words g.wf
    ∙ sym (rw long (places_by_lem ws p end inside (suc (end - p)) (omega arith) ∙ walk ∙ append-nil (starts p (node own k nil)) ∙ ap (λ v. p ∷ v) (append-nil (starts (p + length own) k))))

---- of what is found at a place

spot_place : (xs : List Spot) (p : ℕ) (x : Spot) → spot_in xs p ≡ some x → x.place ≡ p
spot_place [] p x e = let z : ◌≡◌ {A = ℕ} 0 1 = cc in absurd (omega arith)
spot_place (y ∷ ys) p x e = go (eqb y.place p) refl (spot_place ys p x) e
  where
    go : (t : Bool) → eqb y.place p ≡ t → (spot_in ys p ≡ some x → x.place ≡ p) → first_if t y (spot_in ys p) ≡ some x → x.place ≡ p
    go true q f e = let h : y ≡ x = cc in ap (λ (v : Spot). v.place) (sym h) ∙ eqb-true y.place p q
    go false q f e = f e

-- an accepted used file, whose marker is its last word
module _ (dim : ℕ) (s : List ℕ) (m : ℕ) (used : AcceptedUsed dim s m) (below : Below 256 s) (p end depth : ℕ) (above : Above) (located : locate_of (words s) p m ≡ spotted_with end depth above) where
  abbrev ws : List ℕ
  ws = words s

  -- the element, by the list of the file's elements
  record Listed : Type 0 where
    spot : Spot
    found : spot_in (spots_of dim ws) p ≡ some spot
    ends : spot.end ≡ end

  listed : Listed
  listed = go (spot_in (spots_of dim ws) p) refl (sym (found_is dim s m used p) ∙ located)
    where
      go : (o : Option Spot) → spot_in (spots_of dim ws) p ≡ o → found_by o ≡ spotted_with end depth above → Listed
      go none e f = absurd (given_not_refused f)
      go (some x) e f = record { spot = x; found = e; ends = ap (λ (y : Spotted). y.end) (given_is f) }

  pub found_starts : starts_at (spots_of dim ws) p ≡ true
  found_starts = ap is_some listed.found

  pub found_places : extent_places (spots_of dim ws) p ≡ places_in ws p end
  found_places =
      let l = listed in
      let x = l.spot in
      let at = spot_place (spots_of dim ws) p x l.found in
      let i = spot_inside dim s used.elements used.deepest m used.judged p x l.found in
      let long : p + extent_in (spots_of dim ws) p ≡ end = ap (λ o. p + spot_words o) l.found ∙ (let a = i.0 in let b = l.ends in omega arith) in
      extent_places_lem dim ws p (standing dim s m used below) found_starts ∙ ap (places_in ws p) long
