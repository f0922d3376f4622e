-- The direct components in the list of a tree's elements: of an element they are the list's first level under it, since every other
-- element has a header before it, or in another extent.
use Prim.Native.Nat.{ℕ, suc, ◌+◌, ◌≤◌, ◌<◌}
use mathlib.Core.Path.{◌≡◌, refl, sym, ap, ◌∙◌, subst}
use mathlib.Core.Logic.{◌⊎◌, inl, inr}
use mathlib.Core.Bool.{Bool, true, false}
use mathlib.Core.List.{List, [], ◌∷◌, ◌++◌, append-nil}
use mathlib.Core.Option.{Option, none, some}
use native.Mathlib.Numerals.{lt_of_le_of_ne}
use native.Mathlib.Omega.{arith}
use lib.ListN.{length}
use lib.Dec.{eqb, ltb}
use borrow.Author.Tests.{eqb-true, eqb-false, eq-eqb, ne_eqb, ltb-true, ltb-false}
use Rattle.refusals.proofs.Laws.{given_is}
use Rattle.words.specs.Words.{words}
use Rattle.headers.specs.Header.{type_at, size_at, extent_words}
use Rattle.elements.proofs.Laws.{fixed_least}
use Rattle.files.specs.Spots.{Spot, spot_in}
use Rattle.grammar.proofs.Stands.{Stands}
use Rattle.grammar.proofs.Forest.{Forest, nil, node, flat, weight, Wf, spots, length_node, own_stands, components_stand, rest_stand}
use Rattle.grammar.proofs.Rules.{own_size}
use Rattle.grammar.proofs.Places.{none_some, spot_of, spot_here, spot_under, spot_next, spot_within}
use Rattle.grammar.proofs.Whole.{file_tree}
use Rattle.grammar.proofs.Exact.{accepted_is}
use Rattle.places.specs.Places.{found_by}
use Rattle.places.proofs.Descent.{extent_weight}
use Rattle.places.proofs.Places.{spotted_found, spot_inside, spot_rules}
use Rattle.places.proofs.OfType.{found_there}
use Rattle.promises.specs.Components.{PlaceFound, is_under, place_if, direct_places, Behind, ComponentsAre}

---- which elements have the header

direct_append : (xs ys : List Spot) (p : ℕ) → direct_places (xs ++ ys) p ≡ direct_places xs p ++ direct_places ys p
direct_append [] ys p = refl
direct_append (x ∷ xs) ys p = go (is_under x.header p) (direct_append xs ys p)
  where
    go : (b : Bool) → direct_places (xs ++ ys) p ≡ direct_places xs p ++ direct_places ys p →
        place_if b x.place (direct_places (xs ++ ys) p) ≡ place_if b x.place (direct_places xs p) ++ direct_places ys p
    go true e = ap (λ l. x.place ∷ l) e
    go false e = e

-- a header before a place
abbrev Before : Option ℕ → ℕ → Type 0
Before none at = Unit {0}
Before (some h) at = h < at

before_other : (header : Option ℕ) (at p : ℕ) → Before header at → at ≤ p → is_under header p ≡ false
before_other none at p b l = refl
before_other (some h) at p b l = ne_eqb h p (λ e. omega arith)

-- a place outside so many words
abbrev Outside : ℕ → ℕ → ℕ → Type 0
Outside p at n = (p < at) ⊎ (at + n ≤ p)

outside_not : (p at n : ℕ) → Outside p at n → 1 ≤ n → at ≡ p → ⊥
outside_not p at n (inl h) z e = omega arith
outside_not p at n (inr h) z e = omega arith

outside_part : (p at n b m : ℕ) → Outside p at n → at ≤ b → b + m ≤ at + n → Outside p b m
outside_part p at n b m (inl h) l k = inl (omega arith)
outside_part p at n b m (inr h) l k = inr (omega arith)

-- a place outside a tree, which is not the header of its list, is the header of none of its elements
direct_none : (dim depth under : ℕ) (header : Option ℕ) (at : ℕ) (f : Forest) (p : ℕ) → Wf dim depth under f → is_under header p ≡ false →
    Outside p at (length (flat f)) → direct_places (spots depth header at f) p ≡ []
direct_none dim depth under header at nil p w h o = refl
direct_none dim depth under header at (node own k r) p w h o =
    let l = length_node own k r in
    let z = w.0.size in
    let n = length (flat (node own k r)) in
    let inner = spots (suc depth) (some at) (at + length own) k in
    let rest = spots depth header (at + weight own k) r in
    let into = outside_part p at n (at + length own) (length (flat k)) o (omega arith) (omega arith) in
    let on = outside_part p at n (at + weight own k) (length (flat r)) o (omega arith) (omega arith) in
    let not_at = ne_eqb at p (outside_not p at n o (omega arith)) in
    let a : direct_places inner p ≡ [] = direct_none dim (suc depth) (type_at own 0) (some at) (at + length own) k p w.1 not_at into in
    let b : direct_places rest p ≡ [] = direct_none dim depth under header (at + weight own k) r p w.2 h on in
    rw h (direct_append inner rest p ∙ rw (a, b) refl)

module _ (dim : ℕ) (ws : List ℕ) where
  -- the header of a list has the list's own elements, one behind another
  direct_list : (depth under h at : ℕ) (f : Forest) → Wf dim depth under f → Stands (flat f) at ws → h < at →
      Behind ws at (direct_places (spots depth (some h) at f) h) (at + length (flat f))
  direct_list depth under h at nil w s b = omega arith
  direct_list depth under h at (node own k r) w s b =
      let l = length_node own k r in
      let x = extent_weight dim depth under ws at own (length (flat k)) _ w.0 (own_stands own k r s) in
      let inner = spots (suc depth) (some at) (at + length own) k in
      let rest = spots depth (some h) (at + weight own k) r in
      let a : direct_places inner h ≡ [] = direct_none dim (suc depth) (type_at own 0) (some at) (at + length own) k h w.1 (ne_eqb at h (λ e. omega arith)) (inl (omega arith)) in
      let c : direct_places (inner ++ rest) h ≡ direct_places rest h = direct_append inner rest h ∙ rw a refl in
      let end : at + weight own k + length (flat r) ≡ at + length (flat (node own k r)) = omega arith in
      rw (eq-eqb h h refl, c, x)
      (refl, subst (Behind ws (at + weight own k) (direct_places rest h)) end (direct_list depth under h (at + weight own k) r w.2 (rest_stand own k r s) (omega arith)))

  -- an element of a tree, with its extent and the list of its direct components
  record Here (p : ℕ) (x : Spot) (qs : List ℕ) : Type 0 where
    own : p + size_at ws p ≤ x.end
    extent : x.end ≡ p + extent_words ws p
    components : Behind ws (p + size_at ws p) qs x.end

  -- the first of a list
  direct_first : (depth under : ℕ) (header : Option ℕ) (at : ℕ) (own : List ℕ) (k r : Forest) → Wf dim depth under (node own k r) → Stands (flat (node own k r)) at ws → Before header at →
      Here at (spot_of at (weight own k) depth header) (direct_places (spots depth header at (node own k r)) at)
  direct_first depth under header at own k r w s b =
      let z = own_size w.0 (own_stands own k r s) in
      let t = w.0.size in
      let x = extent_weight dim depth under ws at own (length (flat k)) _ w.0 (own_stands own k r s) in
      let inner = spots (suc depth) (some at) (at + length own) k in
      let rest = spots depth header (at + weight own k) r in
      let a : direct_places rest at ≡ [] = direct_none dim depth under header (at + weight own k) r at w.2 (before_other header at at b (omega arith)) (inl (omega arith)) in
      let c : direct_places (inner ++ rest) at ≡ direct_places inner at = direct_append inner rest at ∙ rw a (append-nil (direct_places inner at)) in
      let end : at + length own + length (flat k) ≡ at + weight own k = omega arith in
      record {
        own = omega arith;
        extent = omega arith;
        components = rw (before_other header at at b (omega arith), c, z)
            (subst (Behind ws (at + length own) (direct_places inner at)) end (direct_list (suc depth) (type_at own 0) at (at + length own) k w.1 (components_stand own k r s) (omega arith)));
      }

  direct_tree : (depth under : ℕ) (header : Option ℕ) (at : ℕ) (f : Forest) (p : ℕ) (x : Spot) → Wf dim depth under f → Stands (flat f) at ws → Before header at →
      spot_in (spots depth header at f) p ≡ some x → Here p x (direct_places (spots depth header at f) p)
  direct_tree depth under header at nil p x w s b e = absurd (none_some e)
  direct_tree depth under header at (node own k r) p x w s b e =
      let v = spot_within dim depth under header at (node own k r) p x w e in
      go (eqb at p) refl (ltb p (at + weight own k)) refl v.from
      (λ q. direct_tree (suc depth) (type_at own 0) (some at) (at + length own) k p x w.1 (components_stand own k r s) two q)
      (λ q. direct_tree depth under header (at + weight own k) r p x w.2 (rest_stand own k r s) (before_on header b) q)
    where
      two : at < at + length own
      two = let t = w.0.size in omega arith

      before_on : (h : Option ℕ) → Before h at → Before h (at + weight own k)
      before_on none c = tt
      before_on (some h) c = omega arith

      other : at ≤ p → direct_places (spots depth header at (node own k r)) p ≡ direct_places (spots (suc depth) (some at) (at + length own) k) p ++ direct_places (spots depth header (at + weight own k) r) p
      other l = rw (before_other header at p b l) (direct_append (spots (suc depth) (some at) (at + length own) k) (spots depth header (at + weight own k) r) p)

      go : (c : Bool) → eqb at p ≡ c → (d : Bool) → ltb p (at + weight own k) ≡ d → at ≤ p →
          (spot_in (spots (suc depth) (some at) (at + length own) k) p ≡ some x → Here p x (direct_places (spots (suc depth) (some at) (at + length own) k) p)) →
          (spot_in (spots depth header (at + weight own k) r) p ≡ some x → Here p x (direct_places (spots depth header (at + weight own k) r) p)) →
          Here p x (direct_places (spots depth header at (node own k r)) p)
      go true q d i l f g =
          let a = eqb-true at p q in
          let y : spot_of at (weight own k) depth header ≡ x = cc (spot_here depth header at own k r p a) in
          let first = direct_first depth under header at own k r w s b in
          subst (λ p. Here p x (direct_places (spots depth header at (node own k r)) p)) a (subst (λ y. Here at y (direct_places (spots depth header at (node own k r)) at)) y first)
      go false q true i l f g =
          let h = ltb-true p (at + weight own k) i in
          let n = eqb-false at p q in
          let m : at < p = lt_of_le_of_ne l n in
          let there = sym (spot_under depth header at own k r p m h) ∙ e in
          let t = (spot_within dim (suc depth) (type_at own 0) (some at) (at + length own) k p x w.1 there).from in
          let a : direct_places (spots depth header (at + weight own k) r) p ≡ [] = direct_none dim depth under header (at + weight own k) r p w.2 (before_other header at p b l) (inl h) in
          subst (Here p x) (sym (other l ∙ rw a (append-nil (direct_places (spots (suc depth) (some at) (at + length own) k) p)))) (f there)
      go false q false i l f g =
          let h = ltb-false p (at + weight own k) i in
          let t = two in
          let there = sym (spot_next dim depth under header at own k r p w h) ∙ e in
          let a : direct_places (spots (suc depth) (some at) (at + length own) k) p ≡ [] =
          direct_none dim (suc depth) (type_at own 0) (some at) (at + length own) k p w.1 (ne_eqb at p (λ z. omega arith)) (inr (omega arith)) in
          subst (Here p x) (sym (other l ∙ rw a refl)) (g there)

---- an accepted file

pub components_are : ComponentsAre
components_are dim s e d m at x j f =
    let t = file_tree (accepted_is dim s e d m j).file in
    let i = spot_inside dim s e d m j at x f in
    let found : spot_in (spots 0 none 0 t.tree) at ≡ some x = ap (λ xs. spot_in xs at) t.read ∙ f in
    let h = direct_tree dim (words s) 0 0 none 0 t.tree at x t.wf t.stands tt found in
    record {
      place = (spot_within dim 0 0 none 0 t.tree at x t.wf found).place;
      fixed = fixed_least dim (words s) at (spot_rules dim s e d m j at x f).checked.fixed;
      own = h.own;
      extent = h.extent;
      inside = omega arith;
      components = subst (λ xs. Behind (words s) (at + size_at (words s) at) (direct_places xs at) x.end) t.read h.components;
    }

---- an element that is found

pub place_found : PlaceFound
place_found dim s at end depth above q =
    let g = found_there dim s at end depth above q in
    let y = spotted_found dim s at g.elements g.deepest g.marker g.judged ∙ ap found_by g.is in
    let z = ap (λ r. r.end) (given_is (sym y ∙ q)) in
    record { elements = g.elements; deepest = g.deepest; marker = g.marker; judged = g.judged; spot = g.spot; is = g.is; ends = z }
