-- Calls for the elements of some types, which a test tells: 1, the file's own refusals, 13 where no element starts at the place, 6 at
-- one of another type.
use Rattle.std.specs.Prelude.{ℕ, ◌≡◌, ◌⊎◌, Bool, false, cond, List, [], ◌∷◌, Err, Ok, Result}
use Rattle.words.specs.Words.{words}
use Rattle.headers.specs.Header.{type_at}
use Rattle.files.specs.Refused.{RefusedBy}
use Rattle.places.specs.Places.{spotted_at}
use Rattle.places.specs.declared.Above.{Above}
use Rattle.places.specs.Spotted.{spotted_with}
use Rattle.places.specs.declared.Spotted.{Spotted}
use Rattle.refusals.specs.declared.Refusal.{Refusal}

-- what is read of the element at a place of a judged file
abbrev pub of_type : {A : Type 0} → (ℕ → Bool) → (ℕ → ℕ → A) → List ℕ → ℕ → A → A
of_type test refused ws at read = cond (test (type_at ws at)) read (refused 6 at)

-- where an element starts there
abbrev pub of_place : {A : Type 0} → (ℕ → ℕ → A) → Result Spotted Refusal → A → A
of_place refused (Ok spot) read = read
of_place refused (Err refusal) read = refused refusal.number refusal.place

-- how such a call is refused: as a call at a place is, or with 6 at the element that starts there
pub record OtherType (test : ℕ → Bool) (dim : ℕ) (s : List ℕ) (at n p : ℕ) : Type 0 where
  pub number : n ≡ 6
  pub place : p ≡ at
  pub end : ℕ
  pub depth : ℕ
  pub above : Above
  pub found : spotted_at dim s at ≡ spotted_with end depth above
  pub other : test (type_at (words s) at) ≡ false

abbrev pub TypeRefused : (ℕ → Bool) → ℕ → List ℕ → ℕ → ℕ → ℕ → Type 0
TypeRefused test dim s at n p = RefusedBy dim s (13 ∷ []) n p ⊎ OtherType test dim s at n p
