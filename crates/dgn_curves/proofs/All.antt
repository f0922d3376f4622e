-- An element has one curve or none, which is what the call for it gives; so calls one after another give all.
use Prim.Native.Nat.{ℕ, ◌*◌, ◌≤◌}
use mathlib.Core.Path.{◌≡◌, refl, ap, ap₂, ◌∙◌}
use mathlib.Core.Bool.{and-eq-true_iff, ◌&&◌}
use mathlib.Core.List.{List}
use mathlib.Core.Option.{some}
use native.Mathlib.Omega.{arith}
use lib.ListN.{length, get_or, take}
use lib.Dec.{leb}
use borrow.Author.Tests.{leb-true}
use Rattle.words.specs.Words.{words, word_at}
use Rattle.kinds.specs.FirstWord.{deleted_of}
use Rattle.files.specs.Judge.{judge_of}
use Rattle.files.specs.Spots.{Spot, spots_of, spot_in}
use Rattle.places.specs.Places.{found_by}
use Rattle.places.proofs.Places.{spotted_found}
use Rattle.curve_views.specs.CurveViews.{curve_in, curve_of}
use Rattle.answers.proofs.Besides.{front_read}
use Rattle.order.specs.Fitting.{all_of}
use Rattle.order.proofs.Took.{all_append, Takes, all_taken}
use Rattle.dgn_curves.specs.Curves.{entry_by, all_numbers, all_floats, Both, both, in_both, curve_items, curves_part}
use Rattle.dgn_curves.specs.Answers.{curves_reply}
use Rattle.dgn_curves.specs.Calls.{shown, element_curve, curves_call, AllCurves}
use Rattle.dgn_curves.proofs.Slices.{numbers_long, floats_long, numbers_append, floats_append}
use Rattle.std.specs.Prelude.{Err, Ok, Result}
use Rattle.curve_views.specs.declared.Curve.{Curve}
use Rattle.files.specs.Accepted.{accepted_with}
use Rattle.refusals.specs.declared.Refusal.{Refusal}

entry_few : (c : Result Curve Refusal) (place deleted : ℕ) → length (entry_by c place deleted) ≤ 1
entry_few (Ok curve) place deleted = omega arith
entry_few (Err refusal) place deleted = omega arith

module _ (dim : ℕ) (s : List ℕ) where
  items_few : (x : Spot) → length (curve_items dim (words s) x.place) ≤ 1
  unfolding curve_items
  items_few x = entry_few (curve_in dim (words s) x.place) x.place (deleted_of (word_at (words s) x.place))

  -- what is read at the place of an element is what the call for it gives
  items_each : (e d m : ℕ) → judge_of dim s ≡ accepted_with e d m → (x : Spot) → spot_in (spots_of dim (words s)) x.place ≡ some x → curve_items dim (words s) x.place ≡ element_curve dim s x
  unfolding curve_items curve_of
  items_each e d m j x f = let found = spotted_found dim s x.place e d m j ∙ ap found_by f in rw found refl

  takes_curves : Takes (curves_call dim s) in_both (λ x. x.slices) (λ x. x.out) (element_curve dim s) shown 1 (λ n. n)
  takes_curves = record {
    next = λ k y. refl;
    reads = λ y t xs fits put number.
        let es = all_of (element_curve dim s) xs in
        let n = numbers_long (all_of (element_curve dim s) xs) in
        let f = floats_long (all_of (element_curve dim s) xs) in
        let a : 9 * get_or y.out 1 0 ≡ length (all_numbers (all_of (element_curve dim s) xs)) = omega arith in
        let b : 5 * get_or y.out 1 0 ≡ length (all_floats (all_of (element_curve dim s) xs)) = omega arith in
        ap₂ both
        (ap₂ take a (ap (λ (u : Both). u.numbers) put) ∙ front_read (all_numbers es) t.numbers (omega arith))
        (ap₂ take b (ap (λ (u : Both). u.floats) put) ∙ front_read (all_floats es) t.floats (omega arith));
    enough = λ x h.
        let numbers = leb 9 (length x.slices.numbers) in
        let floats = leb 5 (length x.slices.floats) in
        let both = (and-eq-true_iff (leb 9 (length x.slices.numbers) && leb 5 (length x.slices.floats)) (leb 2 (length x.out))).0 h in
        let first = (and-eq-true_iff (leb 9 (length x.slices.numbers)) (leb 5 (length x.slices.floats))).0 both.0 in
        let n = leb-true 9 (length x.slices.numbers) first.0 in
        let f = leb-true 5 (length x.slices.floats) first.1 in
        (omega arith, leb-true 2 (length x.out) both.1);
    joins = record {
      append = λ xs ys.
          let a = all_append (element_curve dim s) xs ys in
          ap shown a ∙ ap₂ both (numbers_append (all_of (element_curve dim s) xs) (all_of (element_curve dim s) ys)) (floats_append (all_of (element_curve dim s) xs) (all_of (element_curve dim s) ys));
      empty = refl;
      unit = λ g. refl;
    };
  }

pub all_curves : AllCurves
unfolding curves_reply curves_part
all_curves dim s e d m j calls got last c =
    all_taken (curves_call dim s) in_both (λ x. x.slices) (λ x. x.out) dim s e d m j (λ x. curve_items dim (words s) x.place) (element_curve dim s) shown 1 (λ n. n) (takes_curves dim s)
    (items_each dim s e d m j) (λ x f. items_few dim s x) (λ k x n y h a. a.replied) (λ k x n y h a. a.given) calls got last c
