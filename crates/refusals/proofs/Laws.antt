-- What two answers that are equal have in common: an answer that is given is not refused, and a refusal has one number and place.
use Rattle.std.specs.Prelude.{ℕ, ◌≡◌, Result, Ok, Err}
use Rattle.std.proofs.Common.{ap}
use Rattle.refusals.specs.declared.Refusal.{Refusal}
use Rattle.refusals.specs.Refusals.{refusal_of, refused_with}

pub refused_not_given : {A E : Type 0} {x : A} {e : E} → ◌≡◌ {A = Result A E} (Ok x) (Err e) → ⊥
refused_not_given q = cc

pub given_not_refused : {A E : Type 0} {x : A} {e : E} → ◌≡◌ {A = Result A E} (Err e) (Ok x) → ⊥
given_not_refused q = cc

pub given_is : {A E : Type 0} {x y : A} → ◌≡◌ {A = Result A E} (Ok x) (Ok y) → x ≡ y
given_is q = cc

pub refusal_is : {A E : Type 0} {x y : E} → ◌≡◌ {A = Result A E} (Err x) (Err y) → x ≡ y
refusal_is q = cc

pub number_is : {A : Type 0} {n p m q : ℕ} → ◌≡◌ {A = Result A Refusal} (refused_with n p) (refused_with m q) → n ≡ m
number_is e = ap (λ r. r.number) (refusal_is e)

pub place_is : {A : Type 0} {n p m q : ℕ} → ◌≡◌ {A = Result A Refusal} (refused_with n p) (refused_with m q) → p ≡ q
place_is e = ap (λ r. r.place) (refusal_is e)

pub refused_is : {A : Type 0} {n p m q : ℕ} → ◌≡◌ {A = Result A Refusal} (refused_with n p) (refused_with m q) → (n ≡ m) × (p ≡ q)
refused_is e = (number_is e, place_is e)
