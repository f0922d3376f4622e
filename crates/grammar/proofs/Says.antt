-- What a test says: it is true exactly where a statement holds. One law for each form that the tests of the rules have.
use Prim.Native.Nat.{ℕ, ◌≤◌}
use mathlib.Core.Path.{◌≡◌, refl}
use mathlib.Core.Logic.{◌⊎◌, ◌↔◌, inl, inr}
use mathlib.Core.Bool.{Bool, true, false, not, ◌&&◌, ◌||◌, false≢true}
use mathlib.Core.List.{List, [], ◌∷◌}
use lib.Dec.{eqb, leb}
use borrow.Author.Tests.{eqb-true, eq-eqb, leb-true, le-leb}
use Rattle.kinds.specs.Kinds.{one_of}
use Rattle.words.specs.OneOf.{OneOf}

pub record Says (b : Bool) (A : Type 0) : Type 0 where
  pub said : b ≡ true → A
  pub says : A → b ≡ true

never : {A : Type 0} → false ≡ true → A
never e = absurd (false≢true e)

-- the same test, of a statement that says as much
pub says_as : {a : Bool} {A B : Type 0} → Says a A → A ↔ B → Says a B
says_as p e = record { said = λ h. e.0 (p.said h); says = λ x. p.says (e.1 x) }

-- a test as its own statement
pub says_so : (a : Bool) → Says a (a ≡ true)
says_so a = record { said = λ e. e; says = λ e. e }

pub says_eq : (x y : ℕ) → Says (eqb x y) (x ≡ y)
says_eq x y = record { said = eqb-true x y; says = eq-eqb x y }

pub says_le : (x y : ℕ) → Says (leb x y) (x ≤ y)
says_le x y = record { said = leb-true x y; says = le-leb x y }

pub says_not : {a : Bool} {A : Type 0} → Says a A → Says (not a) (¬ A)
says_not {a = true} p = record { said = never; says = λ f. absurd (f (p.said refl)) }
says_not {a = false} p = record { said = λ e x. false≢true (p.says x); says = λ f. refl }

pub says_and : {a b : Bool} {A B : Type 0} → Says a A → Says b B → Says (a && b) (A × B)
says_and {a = true} p q = record { said = λ e. (p.said refl, q.said e); says = λ h. q.says h.1 }
says_and {a = false} p q = record { said = never; says = λ h. never (p.says h.0) }

pub says_or : {a b : Bool} {A B : Type 0} → Says a A → Says b B → Says (a || b) (A ⊎ B)
says_or {a = true} p q = record { said = λ e. inl (p.said refl); says = λ h. refl }
says_or {a = false} {b} {A} {B} p q = record { said = λ e. inr (q.said e); says = go }
  where
    go : A ⊎ B → b ≡ true
    go (inl x) = never (p.says x)
    go (inr y) = q.says y

-- one asks for the other, in two forms
pub says_rule : {a b : Bool} {A B : Type 0} → Says a A → Says b B → Says (not a || b) (A → B)
says_rule {a = true} p q = record { said = λ e x. q.said e; says = λ f. q.says (f (p.said refl)) }
says_rule {a = false} p q = record { said = λ e x. never (p.says x); says = λ f. refl }

pub says_with : {a b : Bool} {A B : Type 0} → Says a A → Says b B → Says (not (a && not b)) (A → B)
says_with {a = false} p q = record { said = λ e x. never (p.says x); says = λ f. refl }
says_with {a = true} {b = true} p q = record { said = λ e x. q.said refl; says = λ f. refl }
says_with {a = true} {b = false} p q = record { said = never; says = λ f. never (q.says (f (p.said refl))) }

-- not both
pub says_never : {a b : Bool} {A B : Type 0} → Says a A → Says b B → Says (not (a && b)) (A → ¬ B)
says_never {a = true} p q = record { said = λ e x. (says_not q).said e; says = λ f. (says_not q).says (f (p.said refl)) }
says_never {a = false} p q = record { said = λ e x. never (p.says x); says = λ f. refl }

-- the second, unless the first
pub says_unless : {a b : Bool} {A B : Type 0} → Says a A → Says b B → Says (a || b) (¬ A → B)
says_unless {a = true} p q = record { said = λ e f. absurd (f (p.said refl)); says = λ f. refl }
says_unless {a = false} p q = record { said = λ e f. q.said e; says = λ f. q.says (f (λ x. false≢true (p.says x))) }

pub says_one_of : (xs : List ℕ) (t : ℕ) → Says (one_of xs t) (OneOf xs t)
says_one_of [] t = record { said = never; says = λ x. absurd x }
says_one_of (x ∷ xs) t = says_or (says_eq t x) (says_one_of xs t)

-- what is chosen by a test
pub says_which : {d : Bool} {D : Type 0} → Says d D → (P : Bool → Type 0) → P d ↔ ((D → P true) × (¬ D → P false))
says_which {d = true} p P = (λ h. (λ x. h, λ f. absurd (f (p.said refl))), λ f. f.0 (p.said refl))
says_which {d = false} p P = (λ h. (λ x. never (p.says x), λ f. h), λ f. f.1 (λ x. false≢true (p.says x)))
