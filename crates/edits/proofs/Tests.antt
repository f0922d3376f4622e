-- Tests joined: what each part of a test that holds says, and back.
use mathlib.Core.Path.{◌≡◌, refl}
use mathlib.Core.Logic.{◌⊎◌, inl, inr}
use mathlib.Core.Bool.{Bool, true, false, not, ◌&&◌, ◌||◌, false≢true}

pub both_and : {a b : Bool} → a ≡ true → b ≡ true → (a && b) ≡ true
both_and p q = rw (p, q) refl

pub or_either : (a b : Bool) → (a || b) ≡ true → (a ≡ true) ⊎ (b ≡ true)
or_either true b e = inl refl
or_either false b e = inr e

pub or_left : {a : Bool} (b : Bool) → a ≡ true → (a || b) ≡ true
or_left b p = rw p refl

pub or_right : (a : Bool) {b : Bool} → b ≡ true → (a || b) ≡ true
or_right true p = refl
or_right false p = p

-- a rule that holds only of some
pub rule_of : (a b : Bool) → (not a || b) ≡ true → a ≡ true → b ≡ true
rule_of true b e p = e
rule_of false b e p = absurd (false≢true p)

pub of_rule : (a b : Bool) → (a ≡ true → b ≡ true) → (not a || b) ≡ true
of_rule true b f = f refl
of_rule false b f = refl
