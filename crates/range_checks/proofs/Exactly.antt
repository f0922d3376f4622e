-- The test over all points is the statement over each point that its call gives: point k of an element that is found stands k times a
-- point's words behind the first.
use Prim.Native.Nat.{ℕ, zero, suc, ◌+◌, ◌*◌, ◌≤◌, ◌<◌}
use mathlib.Core.Path.{◌≡◌, refl, sym, ap, ◌∙◌, subst}
use mathlib.Core.Logic.{◌↔◌, inl, inr}
use mathlib.Core.Bool.{Bool, true, false, cond, ◌&&◌, false≢true, and-eq-true_iff}
use mathlib.Core.List.{List}
use native.Mathlib.Omega.{arith}
use lib.Dec.{T, eqb, ltb}
use lib.IntN.{ℤ}
use lib.Signed.{le_z}
use borrow.Author.Tests.{ltb-true, ltb-false}
use Rattle.words.specs.Words.{words, long_at, signed}
use Rattle.limits.proofs.Dimensions.{by_dims, call_dims}
use Rattle.headers.specs.Header.{type_at}
use Rattle.places.specs.Places.{spotted_at}
use Rattle.places.specs.OfType.{of_place, TypeRefused}
use Rattle.places.specs.declared.Above.{Above}
use Rattle.places.proofs.Places.{spotted_inside}
use Rattle.places.proofs.Refusals.{spotted_refused}
use Rattle.places.proofs.OfType.{Way, nowhere, another, of_type_lem, way}
use Rattle.views.specs.Views.{range_of, element_view, view_by, view_of}
use Rattle.views.specs.declared.Element.{Element}
use Rattle.points_linkages.specs.Points.{point_count, before_points, point_at, point_of}
use Rattle.points_linkages.specs.declared.Point.TheVariants as point
use Rattle.points_linkages.proofs.Numbered.{point_there, point_none}
use Rattle.range_checks.specs.InRange.{is_range_checked, between, lies_in, point_words, each_lies, in_range, in_range_in, in_range_of}
use Rattle.range_checks.specs.Exactly.{Between, Lies, YesExactly, NoExactly, OtherExactly, UnseenRefused, RangeRefused}
use Rattle.std.specs.Prelude.{Err, None, Ok, Option, Result, Some}
use Rattle.places.specs.Spotted.{spotted_with}
use Rattle.places.specs.declared.Spotted.{Spotted}
use Rattle.points_linkages.specs.PointAnswers.{flat_point, solid_point}
use Rattle.points_linkages.specs.declared.Point.{Point}
use Rattle.refusals.specs.Refusals.{refused_with}
use Rattle.refusals.proofs.Laws.{refused_is, given_is, refusal_is, refused_not_given, given_not_refused}
use Rattle.refusals.specs.declared.Refusal.{Refusal}
use Rattle.views.specs.declared.Range.{Range}

---- one point

told : {b : Bool} → b ≡ true → T b
told e = subst T (sym e) tt

tells : (b : Bool) → T b → b ≡ true
tells true t = refl
tells false t = absurd t

between_is : (low high z : ℤ) → (between low high z ≡ true) ↔ Between low high z
between_is low high z =
    let both = and-eq-true_iff (le_z low z) (le_z z high) in (
      λ e. let h = both.0 e in record { least = record { le = told h.0 }; most = record { le = told h.1 } },
      λ b. both.1 (tells (le_z low z) b.least.le, tells (le_z z high) b.most.le),
    )

-- a point that stands in the file
abbrev IsPoint : Result Point Refusal → Type 0
IsPoint (Ok (point.Flat x y)) = Unit {0}
IsPoint (Ok (point.Solid x y z)) = Unit {0}
IsPoint (Err refusal) = ⊥

lies_is : (r : Option Range) (p : Result Point Refusal) → IsPoint p → (lies_in r p ≡ true) ↔ Lies r p
lies_is None (Ok (point.Flat x y)) i = (λ e. false≢true e, λ l. absurd l)
lies_is None (Ok (point.Solid x y z)) i = (λ e. false≢true e, λ l. absurd l)
lies_is None (Err refusal) i = absurd i
lies_is (Some range) (Ok (point.Flat x y)) i =
    let both = and-eq-true_iff (between range.low_x range.high_x x) (between range.low_y range.high_y y) in (
      λ q. ((between_is range.low_x range.high_x x).0 (both.0 q).0, (between_is range.low_y range.high_y y).0 (both.0 q).1),
      λ l. both.1 ((between_is range.low_x range.high_x x).1 l.0, (between_is range.low_y range.high_y y).1 l.1),
    )
lies_is (Some range) (Ok (point.Solid x y z)) i =
    let both = and-eq-true_iff (between range.low_x range.high_x x) (between range.low_y range.high_y y && between range.low_z range.high_z z) in
    let rest = and-eq-true_iff (between range.low_y range.high_y y) (between range.low_z range.high_z z) in (
      λ q. ((between_is range.low_x range.high_x x).0 (both.0 q).0, ((between_is range.low_y range.high_y y).0 (rest.0 (both.0 q).1).0, (between_is range.low_z range.high_z z).0 (rest.0 (both.0 q).1).1)),
      λ l. both.1 ((between_is range.low_x range.high_x x).1 l.0, rest.1 ((between_is range.low_y range.high_y y).1 l.1.0, (between_is range.low_z range.high_z z).1 l.1.1)),
    )
lies_is (Some range) (Err refusal) i = absurd i

is_point : (dim : ℕ) (ws : List ℕ) (q : ℕ) → IsPoint (point_at dim ws q)
is_point dim ws q = go (eqb dim 2)
  where
    go : (b : Bool) →
        IsPoint (cond b (flat_point (signed (long_at ws q)) (signed (long_at ws (q + 2)))) (solid_point (signed (long_at ws q)) (signed (long_at ws (q + 2))) (signed (long_at ws (q + 4)))))
    go true = tt
    go false = tt

---- all points

module _ (r : Option Range) (dim : ℕ) (ws : List ℕ) where
  -- where point k stands, and the point behind it
  abbrev place : ℕ → ℕ → ℕ
  place q k = q + point_words dim * k

  place_next : (q k : ℕ) → place (q + point_words dim) k ≡ place q (suc k)
  place_next q k = go (eqb dim 2)
    where
      go : (b : Bool) → q + cond b 4 6 + cond b 4 6 * k ≡ q + cond b 4 6 * suc k
      go true = omega arith
      go false = omega arith

  place_first : (q : ℕ) → q ≡ place q 0
  place_first q = go (eqb dim 2)
    where
      go : (b : Bool) → q ≡ q + cond b 4 6 * 0
      go true = omega arith
      go false = omega arith

  each_true : (n q : ℕ) → each_lies n r dim ws q ≡ true → (k : ℕ) → k < n → lies_in r (point_at dim ws (place q k)) ≡ true
  each_true zero q e k h = absurd (omega arith)
  each_true (suc n) q e zero h = ap (λ i. lies_in r (point_at dim ws i)) (sym (place_first q)) ∙ ((and-eq-true_iff (lies_in r (point_at dim ws q)) _).0 e).0
  each_true (suc n) q e (suc k) h =
      ap (λ i. lies_in r (point_at dim ws i)) (sym (place_next q k))
      ∙ each_true n (q + point_words dim) ((and-eq-true_iff (lies_in r (point_at dim ws q)) _).0 e).1 k (omega arith)

  -- one of them does not lie in it
  each_false : (n q : ℕ) → each_lies n r dim ws q ≡ false → (k : ℕ) × (k < n) × (lies_in r (point_at dim ws (place q k)) ≡ false)
  each_false zero q e = absurd (false≢true (sym e))
  each_false (suc n) q e = go (lies_in r (point_at dim ws q)) refl e (each_false n (q + point_words dim))
    where
      go : (b : Bool) → lies_in r (point_at dim ws q) ≡ b → (b && each_lies n r dim ws (q + point_words dim)) ≡ false →
          (each_lies n r dim ws (q + point_words dim) ≡ false → (k : ℕ) × (k < n) × (lies_in r (point_at dim ws (place (q + point_words dim) k)) ≡ false)) →
          (k : ℕ) × (k < suc n) × (lies_in r (point_at dim ws (place q k)) ≡ false)
      go false f e rest = (0, omega arith, ap (λ i. lies_in r (point_at dim ws i)) (sym (place_first q)) ∙ f)
      go true f e rest = let l = rest e in (suc l.0, omega (arith, l.1), ap (λ i. lies_in r (point_at dim ws i)) (sym (place_next q l.0)) ∙ l.2)

---- an element that is found

-- what is known of one that a view shows
record SeenAt (dim : ℕ) (s : List ℕ) (at : ℕ) (e : Element) : Type 0 where
  end : ℕ
  depth : ℕ
  above : Above
  found : spotted_at dim s at ≡ spotted_with end depth above
  kind : type_at (words s) at ≡ e.kind
  range : range_of (words s) at ≡ e.range

seen_at : (dim : ℕ) (s : List ℕ) (at : ℕ) (e : Element) → view_of dim s at ≡ Ok e → SeenAt dim s at e
unfolding view_of element_view
seen_at dim s at e v = go (spotted_at dim s at) refl v
  where
    go : (o : Result Spotted Refusal) → spotted_at dim s at ≡ o → view_by o (words s) at ≡ Ok e → SeenAt dim s at e
    go (Err refusal) f q = absurd (given_not_refused q)
    go (Ok spot) f q =
        let is : element_view (words s) at spot.depth spot.above ≡ e = given_is q in
        record { end = spot.end; depth = spot.depth; above = spot.above; found = f; kind = ap (λ x. x.kind) is; range = ap (λ x. x.range) is }

module _ (dim : ℕ) (s : List ℕ) (at : ℕ) {end depth : ℕ} {above : Above} (found : spotted_at dim s at ≡ spotted_with end depth above) where
  abbrev count : ℕ
  count = point_count (words s) at

  abbrev first : ℕ
  first = at + before_points (words s) at

  -- point k, of those there are
  point_is : (k : ℕ) → k < count → point_of dim s at k ≡ point_at dim (words s) (first + point_words dim * k)
  point_is k h =
      let dims = call_dims dim s (spotted_inside dim s at end depth above found).call in
      let stride : first + 2 * dim * k ≡ first + point_words dim * k = by_dims (λ d. first + 2 * d * k ≡ first + point_words d * k) dim dims refl refl in
      sym (point_there dim s at k end depth above found count refl (before_points (words s) at) refl h) ∙ ap (point_at dim (words s)) stride

  lies_at : (r : Option Range) (k : ℕ) → k < count → (lies_in r (point_at dim (words s) (first + point_words dim * k)) ≡ true) ↔ Lies r (point_of dim s at k)
  lies_at r k h =
      let q = first + point_words dim * k in
      subst (λ p. (lies_in r (point_at dim (words s) (first + point_words dim * k)) ≡ true) ↔ Lies r p) (sym (point_is k h)) (lies_is r (point_at dim (words s) q) (is_point dim (words s) q))

  -- of a number that has no point nothing is said
  lies_none : (r : Option Range) (k : ℕ) → count ≤ k → Lies r (point_of dim s at k)
  lies_none r k h = subst (Lies r) (point_none dim s at k end depth above found count refl h) (go r)
    where
      go : (r : Option Range) → Lies r (refused_with 13 0)
      go None = tt
      go (Some range) = tt

  abbrev all : Option Range → Bool
  all r = each_lies count r dim (words s) first

  all_yes : (r : Option Range) → all r ≡ true → (k : ℕ) → Lies r (point_of dim s at k)
  all_yes r e k = go (ltb k count) refl
    where
      go : (b : Bool) → ltb k count ≡ b → Lies r (point_of dim s at k)
      go true q = let h = ltb-true k count q in (lies_at r k h).0 (each_true r dim (words s) count first e k h)
      go false q = lies_none r k (ltb-false k count q)

  all_no : (r : Option Range) → all r ≡ false → (k : ℕ) × (Lies r (point_of dim s at k) → ⊥)
  all_no r e =
      let l = each_false r dim (words s) count first e in
      (l.0, λ lies. false≢true (sym l.2 ∙ (lies_at r l.0 l.1).1 lies))

---- the call

module _ (dim : ℕ) (s : List ℕ) (at : ℕ) (e : Element) (v : view_of dim s at ≡ Ok e) where
  seen : SeenAt dim s at e
  seen = seen_at dim s at e v

  abbrev lie : Bool
  lie = all dim s at seen.found e.range

  answered : (k : Bool) → is_range_checked e.kind ≡ k → (t : Bool) → lie ≡ t → in_range_of dim s at ≡ cond k (Ok t) (refused_with 6 at)
  unfolding in_range_of in_range_in in_range
  answered k q t l =
      rw (seen.found, ap is_range_checked seen.kind ∙ q)
      (ap (λ r. cond k (Ok (all dim s at seen.found r)) (refused_with 6 at)) seen.range ∙ ap (λ b. cond k (Ok b) (refused_with 6 at)) l)

  module _ (k : is_range_checked e.kind ≡ true) where
    yes : (in_range_of dim s at ≡ (Ok true)) ↔ ((k : ℕ) → Lies e.range (point_of dim s at k))
    yes = go lie refl
      where
        go : (t : Bool) → lie ≡ t → (in_range_of dim s at ≡ (Ok true)) ↔ ((k : ℕ) → Lies e.range (point_of dim s at k))
        go true l = (λ q. all_yes dim s at seen.found e.range l, λ h. answered true k true l)
        go false l =
            let n = all_no dim s at seen.found e.range l in
            let a = answered true k false l in
            (λ q. absurd (false≢true (given_is (sym a ∙ q))), λ h. absurd (n.1 (h n.0)))

    no : (in_range_of dim s at ≡ (Ok false)) ↔ ((k : ℕ) × (Lies e.range (point_of dim s at k) → ⊥))
    no = go lie refl
      where
        go : (t : Bool) → lie ≡ t → (in_range_of dim s at ≡ (Ok false)) ↔ ((k : ℕ) × (Lies e.range (point_of dim s at k) → ⊥))
        go true l =
            let a = answered true k true l in
            (λ q. absurd (false≢true (given_is (sym q ∙ a))), λ h. absurd (h.1 (all_yes dim s at seen.found e.range l h.0)))
        go false l = (λ q. all_no dim s at seen.found e.range l, λ h. answered true k false l)

  other : (in_range_of dim s at ≡ refused_with 6 at) ↔ (is_range_checked e.kind ≡ false)
  other = go (is_range_checked e.kind) refl lie refl
    where
      go : (k : Bool) → is_range_checked e.kind ≡ k → (t : Bool) → lie ≡ t → (in_range_of dim s at ≡ refused_with 6 at) ↔ (is_range_checked e.kind ≡ false)
      go true k true l = let a = answered true k true l in (λ q. absurd (refused_not_given (sym a ∙ q)), λ h. absurd (false≢true (sym h ∙ k)))
      go true k false l = let a = answered true k false l in (λ q. absurd (refused_not_given (sym a ∙ q)), λ h. absurd (false≢true (sym h ∙ k)))
      go false k t l = (λ q. k, λ h. answered false k t l)

pub yes_exactly : YesExactly
yes_exactly dim s at e v k = yes dim s at e v k

pub no_exactly : NoExactly
no_exactly dim s at e v k = no dim s at e v k

pub other_exactly : OtherExactly
other_exactly dim s at e v = other dim s at e v

---- refused

pub unseen_refused : UnseenRefused
unfolding view_of in_range_of
unseen_refused dim s at n p v = go (spotted_at dim s at) v
  where
    go : (x : Result Spotted Refusal) → view_by x (words s) at ≡ refused_with n p → of_place refused_with x (in_range_in dim (words s) at) ≡ refused_with n p
    go (Err refusal) e = ap Err (refusal_is e)
    go (Ok spot) e = absurd (refused_not_given e)

pub in_range_refused : RangeRefused
unfolding in_range_of in_range_in
in_range_refused dim s at n p q = go (way is_range_checked refused_with dim s at (Ok (in_range dim (words s) at)) (refused_with n p) q)
  where
    go : Way is_range_checked refused_with dim s at (Ok (in_range dim (words s) at)) (refused_with n p) → TypeRefused is_range_checked dim s at n p
    go (nowhere m r e f) = inl (spotted_refused dim s at n p (e ∙ ap Err (refusal_is (sym f))))
    go (another end depth above e h f) = let x = refused_is f in inr (record { number = x.0; place = x.1; end = end; depth = depth; above = above; found = e; other = h })
    go (of_type_lem end depth above e h f) = absurd (given_not_refused f)
