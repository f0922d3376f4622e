-- A refusal of a file, of a call on it by one of its own numbers, or of a call for elements of some types, is small.
use Prim.Native.Nat.{ℕ, ◌<◌}
use mathlib.Core.Path.{◌≡◌, refl, ◌∙◌}
use mathlib.Core.Logic.{inl, inr}
use mathlib.Core.Bool.{Bool, true, false}
use mathlib.Core.List.{List, [], ◌∷◌}
use native.Mathlib.Omega.{arith}
use lib.ListN.{length}
use Rattle.words.specs.Words.{words}
use Rattle.words.proofs.Laws.{length_words}
use Rattle.limits.specs.Limits.{call_ok}
use Rattle.files.specs.Judge.{judge_of}
use Rattle.files.specs.Refused.{RefusedBy}
use Rattle.files.proofs.Laws.{judge_call}
use Rattle.grammar.specs.FirstFault.{Refusal}
use Rattle.grammar.proofs.FirstFault.{number_within, refusal_place}
use Rattle.places.specs.Places.{spotted_at}
use Rattle.places.specs.declared.Above.{Above}
use Rattle.places.specs.OfType.{TypeRefused}
use Rattle.places.proofs.Places.{spotted_inside}
use Rattle.answers.specs.Answers.{Small}
use Rattle.answers.proofs.Elements.{call_words}
use Rattle.places.specs.Spotted.{spotted_with}
use Rattle.refusals.specs.Refusals.{refused_with}
use Rattle.refusals.proofs.Laws.{number_is, place_is}

module _ (dim : ℕ) (s : List ℕ) (n p : ℕ) where
  pub file_small : judge_of dim s ≡ refused_with n p → Small n p
  file_small q = go (call_ok dim s) refl (refusal_place dim s n p q)
    where
      go : (b : Bool) → call_ok dim s ≡ b → Refusal (length (words s)) n p → Small n p
      go true c (inl x) = (omega arith, omega arith, omega arith)
      go true c (inr (inl x)) = let l = call_words dim s c in (omega arith, omega arith, omega arith)
      go true c (inr (inr x)) =
          let l = call_words dim s c in
          let m = number_within x.0 in
          (omega arith, omega arith, omega arith)
      go false c r =
          let e = judge_call dim s c in
          let number : 1 ≡ n = number_is (e ∙ q) in
          let place : 0 ≡ p = place_is (e ∙ q) in
          (omega arith, omega arith, omega arith)

  -- 12 or 13 at 0
  pub call_small : RefusedBy dim s (12 ∷ 13 ∷ []) n p → Small n p
  call_small (inl q) = file_small q
  call_small (inr (inl e, z)) = (omega arith, omega arith, omega arith)
  call_small (inr (inr (inl e), z)) = (omega arith, omega arith, omega arith)
  call_small (inr (inr (inr e), z)) = absurd e

  pub place_small : RefusedBy dim s (13 ∷ []) n p → Small n p
  place_small (inl q) = file_small q
  place_small (inr (e, z)) = call_small (inr (inr e, z))

---- at a place

module _ (dim : ℕ) (s : List ℕ) (at : ℕ) where
  -- an element that is found starts at a small place
  pub found_small : (end depth : ℕ) (above : Above) → spotted_at dim s at ≡ spotted_with end depth above → at < 524288
  found_small end depth above e =
      let i = spotted_inside dim s at end depth above e in
      let w = call_words dim s i.call in
      let l = length_words s in
      omega arith

  pub type_small : (test : ℕ → Bool) (n p : ℕ) → TypeRefused test dim s at n p → Small n p
  type_small test n p (inl r) = place_small dim s n p r
  type_small test n p (inr r) =
      let number = r.number in
      let place = r.place in
      let l = found_small r.end r.depth r.above r.found in
      (omega arith, omega arith, omega arith)
