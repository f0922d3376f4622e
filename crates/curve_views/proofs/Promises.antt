-- An ellipse or an arc of an accepted file passes the tests of one element, so each of its floats is a number, and the call for it
-- reads it; what it reads is, part by part, the float of four words.
use Prim.Native.Nat.{ℕ, ◌+◌, ◌-◌, ◌≤◌}
use mathlib.Core.Path.{◌≡◌, refl, sym, ap, ◌∙◌}
use mathlib.Core.Logic.{inl, inr}
use mathlib.Core.Bool.{Bool, true, false, cond, not, and-eq-true_iff}
use mathlib.Core.List.{List, [], ◌∷◌}
use mathlib.Core.Option.{some}
use native.Mathlib.Omega.{arith}
use lib.ListN.{length}
use lib.Dec.{eqb, leb}
use borrow.Author.Tests.{not-true, leb-true, le-leb}
use Rattle.std.specs.Prelude.{Err, Ok, Result}
use Rattle.words.specs.Words.{words, word_at, Below}
use Rattle.words.specs.OneOf.{OneOf}
use Rattle.words.proofs.Laws.{words_below}
use Rattle.dfloats.specs.FirstWord.{is_reserved}
use Rattle.dfloats.specs.Promises.{Held}
use Rattle.dfloats.proofs.Meaning.{float_held}
use Rattle.curves.specs.Curves.{float_places, each_float_ok, floats_ok}
use Rattle.kinds.specs.Kinds.{is_curve, fixed_part}
use Rattle.kinds.proofs.Types.{fixed_any, curve_type}
use Rattle.headers.specs.Header.{type_at, size_at, sizing_at}
use Rattle.elements.specs.Rules.{curve_floats_ok}
use Rattle.elements.proofs.Laws.{fixed_least}
use Rattle.files.specs.Judge.{judge_of}
use Rattle.files.specs.Spots.{Spot, spots_of, spot_in}
use Rattle.grammar.proofs.Exact.{is_accepted, elements_are}
use Rattle.places.specs.Places.{above_of, found_by, spotted_at}
use Rattle.places.specs.OfType.{TypeRefused, of_place}
use Rattle.places.proofs.Places.{spot_rules, spotted_found}
use Rattle.places.proofs.Refusals.{spotted_refused}
use Rattle.places.proofs.OfType.{found_there, Way, nowhere, another, of_type_lem, way}
use Rattle.files.specs.Accepted.{accepted_with}
use Rattle.places.specs.Spotted.{spotted_with}
use Rattle.places.specs.declared.Spotted.{Spotted}
use Rattle.refusals.specs.Refusals.{refused_with}
use Rattle.refusals.proofs.Laws.{number_is, place_is, refusal_is, given_not_refused}
use Rattle.refusals.specs.declared.Refusal.{Refusal}
use Rattle.curve_views.specs.declared.Origin.TheVariants as origins
use Rattle.curve_views.specs.CurveViews.{float_at, origin_at, ellipse_at, arc_at, curve_at, curve_in, curve_of}
use Rattle.curve_views.specs.Promises.{CurveRefused, CurveGiven, FloatsNumbers, EachOf, EachFloat, CurveHeld}

---- the floats and the size of an element of an accepted file

module _ (dim : ℕ) (s : List ℕ) (e d m : ℕ) (j : judge_of dim s ≡ accepted_with e d m) (at : ℕ) (x : Spot) (f : spot_in (spots_of dim (words s)) at ≡ some x)
    (k : is_curve (type_at (words s) at) ≡ true) where
  floats_right : floats_ok dim (type_at (words s) at) (words s) at ≡ true
  unfolding curve_floats_ok
  floats_right = rw k at (spot_rules dim s e d m j at x f).checked.floats

  part_inside : at + fixed_part dim (type_at (words s) at) 0 ≤ length (words s)
  part_inside =
      let r = (spot_rules dim s e d m j at x f).checked in
      let two = leb-true 2 (length (words s) - at) r.two in
      let size = leb-true (size_at (words s) at) (length (words s) - at) r.size in
      let least = fixed_least dim (words s) at r.fixed in
      let any = fixed_any dim (type_at (words s) at) (sizing_at dim (words s) at) 0 (curve_type (type_at (words s) at) k).unsized in
      omega arith

each_number : (ks : List ℕ) (ws : List ℕ) (at : ℕ) → each_float_ok ks ws at ≡ true → (k : ℕ) → OneOf ks k → is_reserved (word_at ws (at + k)) ≡ false
each_number [] ws at h k o = absurd o
each_number (i ∷ ks) ws at h k (inl q) = rw q (not-true _ ((and-eq-true_iff (not (is_reserved (word_at ws (at + i)))) (each_float_ok ks ws at)).0 h).0)
each_number (i ∷ ks) ws at h k (inr o) = each_number ks ws at ((and-eq-true_iff (not (is_reserved (word_at ws (at + i)))) (each_float_ok ks ws at)).0 h).1 k o

pub floats_numbers : FloatsNumbers
unfolding floats_ok
floats_numbers dim s xs m c f at x i k n o =
    let j = is_accepted dim s xs m c f in
    let is = elements_are dim (words s) xs m f in
    each_number (float_places dim (type_at (words s) at)) (words s) at (floats_right dim s _ _ m j at x (rw is at i) k) n o

---- the call

pub curve_refused : CurveRefused
unfolding curve_of curve_in curve_at
curve_refused dim s at n p q = go (way is_curve refused_with dim s at (curve_at dim (words s) at) (refused_with n p) q)
  where
    read : (b : Bool) → refused_with n p ≡ cond b (ellipse_at dim (words s) at) (arc_at dim (words s) at) → TypeRefused is_curve dim s at n p
    read true h = absurd (given_not_refused h)
    read false h = absurd (given_not_refused h)

    go : Way is_curve refused_with dim s at (curve_at dim (words s) at) (refused_with n p) → TypeRefused is_curve dim s at n p
    go (nowhere m r e f) = inl (spotted_refused dim s at n p (e ∙ ap Err (sym (refusal_is f))))
    go (another end depth above e h f) = inr (record { number = number_is f; place = place_is f; end = end; depth = depth; above = above; found = e; other = h })
    go (of_type_lem end depth above e h f) =
        let there = found_there dim s at end depth above e in
        let right = floats_right dim s there.elements there.deepest there.marker there.judged at there.spot there.is h in
        let long = part_inside dim s there.elements there.deepest there.marker there.judged at there.spot there.is h in
        read (eqb (type_at (words s) at) 15) (rw (le-leb _ _ long, right) at f)

pub curve_given : CurveGiven
unfolding curve_of curve_in curve_at
curve_given dim s at e d m x j f = record { ellipse = λ t. given t refl ∙ rw t refl; arc = λ t. given t refl ∙ rw t refl }
  where
    found : spotted_at dim s at ≡ spotted_with x.end x.depth (above_of x.header)
    found = spotted_found dim s at e d m j ∙ ap found_by f

    given : {t : ℕ} → type_at (words s) at ≡ t → is_curve t ≡ true → curve_of dim s at ≡ cond (eqb (type_at (words s) at) 15) (ellipse_at dim (words s) at) (arc_at dim (words s) at)
    given t k =
        let h : is_curve (type_at (words s) at) ≡ true = rw t k in
        rw (found, h, le-leb _ _ (part_inside dim s e d m j at x f h), floats_right dim s e d m j at x f h) refl

---- its floats are numbers

module _ (ws : List ℕ) (b : Below 65536 ws) where
  held : (i : ℕ) → Held (float_at ws i)
  unfolding float_at
  held i = float_held (word_at ws i) (word_at ws (i + 1)) (word_at ws (i + 2)) (word_at ws (i + 3)) (b (i + 1)) (b (i + 2)) (b (i + 3))

  origin_held : (dim i : ℕ) → EachOf Held (origin_at dim ws i)
  unfolding origin_at
  origin_held dim i = go (eqb dim 2)
    where
      go : (flat : Bool) → EachOf Held (cond flat (origins.Flat (float_at ws i) (float_at ws (i + 4))) (origins.Solid (float_at ws i) (float_at ws (i + 4)) (float_at ws (i + 8))))
      go true = (held i, held (i + 4))
      go false = (held i, (held (i + 4), held (i + 8)))

  curve_held_at : (dim at : ℕ) → EachFloat Held (curve_at dim ws at)
  unfolding curve_at
  curve_held_at dim at = go (leb (at + fixed_part dim (type_at ws at) 0) (length ws)) (floats_ok dim (type_at ws at) ws at) (eqb (type_at ws at) 15)
    where
      go : (whole numbers ellipse : Bool) →
          EachFloat Held (cond whole (cond numbers (cond ellipse (ellipse_at dim ws at) (arc_at dim ws at)) (refused_with 21 at)) (refused_with 3 at))
      go false n l = tt
      go true false l = tt
      go true true true = (held _, (held _, origin_held dim _))
      go true true false = (held _, (held _, origin_held dim _))

pub curve_held : CurveHeld
unfolding curve_of curve_in
curve_held dim s at b = go (spotted_at dim s at) (is_curve (type_at (words s) at))
  where
    go : (x : Result Spotted Refusal) (curve : Bool) → EachFloat Held (of_place refused_with x (cond curve (curve_at dim (words s) at) (refused_with 6 at)))
    go (Err refusal) c = tt
    go (Ok spot) true = curve_held_at (words s) (words_below s b) dim at
    go (Ok spot) false = tt
