-- The element at the top whose extent holds a place: what the descent finds from it on is what it finds from the start,
-- since every extent before it ends by the place.
use Prim.Native.Nat.{ℕ, ◌+◌, ◌/◌, ◌≤◌, ◌<◌}
use mathlib.Core.Path.{◌≡◌, refl, sym, ap, ◌∙◌, subst}
use mathlib.Core.Bool.{true, false}
use mathlib.Core.List.{List}
use native.Mathlib.Omega.{arith}
use lib.ListN.{length}
use borrow.Author.Tests.{ltb-true, ltb-false}
use Rattle.words.specs.Words.{words}
use Rattle.words.proofs.Laws.{length_words}
use Rattle.files.specs.Ends.{stop_of}
use Rattle.files.specs.Judge.{element_of}
use Rattle.limits.specs.Limits.{call_ok}
use Rattle.files.specs.Reach.{reached_of, stops_after}
use Rattle.files.specs.declared.Stop.TheVariants.{More}
use Rattle.grammar.proofs.Forest.{flat}
use Rattle.grammar.proofs.Stands.{stands_left}
use Rattle.places.specs.declared.Above.TheVariants.{Top}
use Rattle.places.specs.Places.{placed_at}
use Rattle.headers.specs.Header.{extent_words}
use Rattle.places.specs.Descent.{IsLocated}
use Rattle.places.proofs.Descent.{extent_weight, step_over, descent_is}
use Rattle.places.proofs.Places.{locate_before, locate_after, placed_refused, placed_located}
use Rattle.grammar.proofs.Tops.{Judged, judged_none, judged_done, judged_read, judged_on, judged_more, Arrived, arrived}
use Rattle.std.specs.Prelude.{Result}
use Rattle.files.specs.Judgement.{good_with}
use Rattle.files.specs.ReachedAnswers.{an_element, an_end}
use Rattle.files.specs.declared.Reached.{Reached}
use Rattle.places.specs.Placed.{placed_with}
use Rattle.places.specs.declared.Spotted.{Spotted}
use Rattle.refusals.specs.Refusals.{refused_with}
use Rattle.refusals.specs.declared.Refusal.{Refusal}

-- what is found from an element at the top on is what is found from the start
abbrev pub Same : List ℕ → ℕ → ℕ → Type 0
Same s at p = (r : Result Spotted Refusal) → IsLocated (words s) at 0 Top p r → IsLocated (words s) 0 0 Top p r

-- the elements before `here` are judged and end by p
record Nearest (dim : ℕ) (s : List ℕ) (p here : ℕ) : Type 0 where
  judged : Judged dim s here
  by : here ≤ p
  same : Same s here p

-- judging stops only where an element ends after a place
not_after : (ws : List ℕ) (until at next : ℕ) → stops_after ws until false at next ≡ false → next ≤ until
unfolding stops_after
not_after ws until at next e = ltb-false until next e

after : (ws : List ℕ) (until at next : ℕ) → stops_after ws until false at next ≡ true → until < next
unfolding stops_after
after ws until at next e = ltb-true until next e

module _ {dim : ℕ} {s : List ℕ} {p here : ℕ} (n : Nearest dim s p here) {next e d k : ℕ}
    (more : stop_of 0 (words s) here (length s / 2) ≡ More) (good : good_with next e d k ≡ element_of dim 0 0 (words s) here (length s / 2)) where
  extent_is : next ≡ here + extent_words (words s) here
  extent_is =
      let x = judged_read n.judged more good in
      sym x.last ∙ ap (λ m. here + m) (sym (extent_weight dim 0 0 (words s) here x.own _ _ x.rules (stands_left x.own (flat x.components) x.stands)))

  nearest_more : next ≤ p → Nearest dim s p next
  nearest_more l = record {
    judged = judged_more n.judged more good;
    by = l;
    same = λ r i.
        let a = judged_on n.judged more good in
        n.same r
        (step_over (words s) here 0 Top p (extent_words (words s) here) refl r (omega (arith, extent_is)) (subst (λ m. IsLocated (words s) m 0 Top p r) extent_is i));
  }

module _ (dim : ℕ) (s : List ℕ) (p : ℕ) (call : call_ok dim s ≡ true) where
  first_arrived : (v : Result Reached Refusal) → v ≡ reached_of dim (words s) 0 (length s / 2) p false → Arrived dim s p false (λ k a. Nearest dim s p a) v
  first_arrived v e =
      arrived dim s p false (λ k a. Nearest dim s p a) call (λ k a q. q.judged)
      (λ k a next e d j q more good goes. nearest_more q more good (not_after (words s) p a next goes))
      0 v (record { judged = judged_none; by = omega arith; same = λ r i. i }) e

  pub first_fault : {n q : ℕ} → refused_with n q ≡ reached_of dim (words s) 0 (length s / 2) p false → refused_with n q ≡ placed_at dim s p
  first_fault e = sym (placed_refused dim s p _ _ (first_arrived _ e))

  -- the marker is not after the place
  pub first_end : {m k : ℕ} → an_end m k ≡ reached_of dim (words s) 0 (length s / 2) p false → placed_with m (refused_with 13 0) ≡ placed_at dim s p
  first_end {m} e =
      let x = first_arrived _ e in
      sym (placed_located dim s p _ _ m (judged_done x.0.judged call x.1) ∙ ap (placed_with m) (locate_after (words s) p m x.0.by))

  -- the element at `top` ends after it
  module _ {top end k : ℕ} (e : an_element top end k ≡ reached_of dim (words s) 0 (length s / 2) p false) where
    abbrev Rest : ℕ → ℕ → Type 0
    Rest j a = (end ≤ a) × Judged dim s a

    pub before_end : p < end
    before_end = after (words s) p top end (first_arrived _ e).3.3

    pub end_inside : end ≤ length s / 2
    end_inside = let x = (first_arrived _ e).3 in (judged_read x.0.judged x.1 x.2).within

    rest_arrived : (v : Result Reached Refusal) → v ≡ reached_of dim (words s) end (length s / 2) (length s / 2) false → Arrived dim s (length s / 2) false Rest v
    rest_arrived v f =
        let x = (first_arrived _ e).3 in
        arrived dim s (length s / 2) false Rest call (λ j a q. q.1)
        (λ j a next e d i q more good goes. let o = judged_on q.1 more good in let l = q.0 in (omega arith, judged_more q.1 more good))
        end v (omega arith, judged_more x.0.judged x.1 x.2) f

    pub rest_fault : {n q : ℕ} → refused_with n q ≡ reached_of dim (words s) end (length s / 2) (length s / 2) false → refused_with n q ≡ placed_at dim s p
    rest_fault f = sym (placed_refused dim s p _ _ (rest_arrived _ f))

    pub rest_end : {m j : ℕ} (r : Result Spotted Refusal) → an_end m j ≡ reached_of dim (words s) end (length s / 2) (length s / 2) false → IsLocated (words s) top 0 Top p r →
        placed_with m r ≡ placed_at dim s p
    rest_end {m} r f i =
        let y = rest_arrived _ f in
        let x = (first_arrived _ e).3 in
        let b = y.0.1.inside in
        let w = length_words s in
        let l = before_end in
        let o = y.0.0 in
        ap (placed_with m) (descent_is (words s) p r (x.0.same r i) ∙ sym (locate_before (words s) p m (omega arith) (omega arith)))
        ∙ sym (placed_located dim s p _ _ m (judged_done y.0.1 call y.1))

    -- no element ends after the bound
    pub rest_stops : {a b j : ℕ} → an_element a b j ≡ reached_of dim (words s) end (length s / 2) (length s / 2) false → ⊥
    rest_stops {a} {b} f =
        let y = (rest_arrived _ f).3 in
        let w = (judged_read y.0.1 y.1 y.2).within in
        let l = after (words s) (length s / 2) a b y.3 in
        absurd (omega arith)
