-- The ways of a call for the elements of some types: refused as a call at a place is, with 6 for another type, or what is read, of an
-- element that is found.
use Prim.Native.Nat.{ℕ, ◌/◌, ◌<◌}
use mathlib.Core.Path.{◌≡◌, refl, sym, ap, ◌∙◌}
use mathlib.Core.Bool.{Bool, true, false, cond, false≢true}
use mathlib.Core.List.{List}
use mathlib.Core.Option.{Option, none, some}
use lib.ListN.{length}
use lib.Dec.{ltb}
use borrow.Author.Tests.{ltb-true, ltb-false}
use Rattle.words.specs.Words.{words}
use Rattle.words.proofs.Laws.{word_out}
use Rattle.kinds.specs.FirstWord.{type_of}
use Rattle.headers.specs.Header.{type_at}
use Rattle.files.specs.Judge.{judge_of}
use Rattle.files.specs.Spots.{Spot, spots_of, spot_in}
use Rattle.places.specs.Places.{found_by, spotted_at}
use Rattle.places.specs.declared.Above.{Above}
use Rattle.places.specs.OfType.{of_type, of_place}
use Rattle.places.proofs.Places.{spotted_refused, spotted_found}
use Rattle.std.specs.Prelude.{Err, Ok, Result}
use Rattle.files.specs.Accepted.{accepted_with}
use Rattle.files.specs.declared.Accepted.{Accepted}
use Rattle.places.specs.Spotted.{spotted_with}
use Rattle.places.specs.declared.Spotted.{Spotted}
use Rattle.refusals.specs.Refusals.{refused_with}
use Rattle.refusals.proofs.Laws.{refused_not_given, given_not_refused}
use Rattle.refusals.specs.declared.Refusal.{Refusal}

-- where no word stands the type is 0: an element of other types lies in the file
pub type_inside : (test : ℕ → Bool) → test 0 ≡ false → (s : List ℕ) (at : ℕ) → test (type_at (words s) at) ≡ true → at < length s / 2
type_inside test z s at h = go (ltb at (length s / 2)) refl
  where
    go : (b : Bool) → ltb at (length s / 2) ≡ b → at < length s / 2
    go true e = ltb-true at (length s / 2) e
    go false e = absurd (false≢true (sym z ∙ sym (ap (λ w. test (type_of w)) (word_out s at (ltb-false at (length s / 2) e))) ∙ h))

-- an element that is found: the file is accepted, and it is one of its elements
pub record Found (dim : ℕ) (s : List ℕ) (at : ℕ) : Type 0 where
  pub elements : ℕ
  pub deepest : ℕ
  pub marker : ℕ
  pub judged : judge_of dim s ≡ accepted_with elements deepest marker
  pub spot : Spot
  pub is : spot_in (spots_of dim (words s)) at ≡ some spot

pub found_there : (dim : ℕ) (s : List ℕ) (at end depth : ℕ) (above : Above) → spotted_at dim s at ≡ spotted_with end depth above → Found dim s at
found_there dim s at end depth above q = go (judge_of dim s) refl
  where
    found : (e d m : ℕ) → judge_of dim s ≡ accepted_with e d m → (o : Option Spot) → spot_in (spots_of dim (words s)) at ≡ o → found_by o ≡ spotted_with end depth above → Found dim s at
    found e d m j none i f = absurd (given_not_refused f)
    found e d m j (some x) i f = record { elements = e; deepest = d; marker = m; judged = j; spot = x; is = i }

    go : (v : Result Accepted Refusal) → judge_of dim s ≡ v → Found dim s at
    go (Err refusal) j = absurd (refused_not_given (sym q ∙ spotted_refused dim s at refusal.number refusal.place j))
    go (Ok file) j = found file.elements file.deepest file.marker j (spot_in (spots_of dim (words s)) at) refl (sym (spotted_found dim s at file.elements file.deepest file.marker j) ∙ q)

---- the ways

pub data Way {A : Type 0} (test : ℕ → Bool) (refused : ℕ → ℕ → A) (dim : ℕ) (s : List ℕ) (at : ℕ) (read x : A) : Type 0 where
  nowhere : (n p : ℕ) → spotted_at dim s at ≡ refused_with n p → x ≡ refused n p → Way test refused dim s at read x
  another : (end depth : ℕ) (above : Above) → spotted_at dim s at ≡ spotted_with end depth above → test (type_at (words s) at) ≡ false → x ≡ refused 6 at →
      Way test refused dim s at read x
  of_type_lem : (end depth : ℕ) (above : Above) → spotted_at dim s at ≡ spotted_with end depth above → test (type_at (words s) at) ≡ true → x ≡ read →
      Way test refused dim s at read x

pub way : {A : Type 0} (test : ℕ → Bool) (refused : ℕ → ℕ → A) (dim : ℕ) (s : List ℕ) (at : ℕ) (read x : A) →
    of_place refused (spotted_at dim s at) (of_type test refused (words s) at read) ≡ x → Way test refused dim s at read x
way {A} test refused dim s at read x q = go (spotted_at dim s at) refl (test (type_at (words s) at)) refl q
  where
    go : (r : Result Spotted Refusal) → spotted_at dim s at ≡ r → (b : Bool) → test (type_at (words s) at) ≡ b → of_place refused r (cond b read (refused 6 at)) ≡ x → Way test refused dim s at read x
    go (Err refusal) e b f q = nowhere refusal.number refusal.place e (sym q)
    go (Ok spot) e true f q = of_type_lem spot.end spot.depth spot.above e f (sym q)
    go (Ok spot) e false f q = another spot.end spot.depth spot.above e f (sym q)
