-- A view accepts exactly the places of the file's elements.
use Prim.Native.Nat.{ℕ}
use mathlib.Core.Path.{◌≡◌, refl, sym, ap, ◌∙◌}
use mathlib.Core.Bool.{Bool, true, false}
use mathlib.Core.List.Memᴰ
use mathlib.Core.List.{List, [], ◌∷◌, Memᴰ}
use mathlib.Core.Logic.{◌⊎◌, inl, inr}
use mathlib.Core.Option.{Option, none, some}
use native.Mathlib.Omega.{arith}
use lib.Dec.{eqb}
use borrow.Author.Tests.{eqb-true, eq-eqb}
use Rattle.words.specs.Words.{words}
use Rattle.files.specs.Judge.{judge_of}
use Rattle.files.specs.Spots.{Spot, spots_of, first_if, spot_in}
use Rattle.places.specs.Places.{found_by}
use Rattle.views.specs.Views.{view_by, view_of}
use Rattle.views.specs.Starts.{Starts, Accepts}
use Rattle.places.proofs.Places.{spotted_found}
use Rattle.files.specs.Accepted.{accepted_with}

none_some : {x : Spot} → ◌≡◌ {A = Option Spot} none (some x) → ⊥
none_some e = let z : ◌≡◌ {A = ℕ} 0 1 = cc in omega arith

-- what is looked up is in the list, and what is in the list is found
pub spot_starts : (xs : List Spot) (p : ℕ) (x : Spot) → spot_in xs p ≡ some x → Starts xs p
spot_starts [] p x e = absurd (none_some e)
spot_starts (y ∷ xs) p x e = go (eqb y.place p) refl e (spot_starts xs p x)
  where
    go : (b : Bool) → eqb y.place p ≡ b → first_if b y (spot_in xs p) ≡ some x → (spot_in xs p ≡ some x → Starts xs p) → Starts (y ∷ xs) p
    go true q e k = (y, Memᴰ.head refl, eqb-true y.place p q)
    go false q e k = let s = k e in (s.0, Memᴰ.tail s.1, s.2)

starts_spot : (xs : List Spot) (p : ℕ) (x : Spot) → Memᴰ x xs → x.place ≡ p → spot_in xs p ≡ none → ⊥
starts_spot [] p x m e n = Memᴰ.not-nil m
starts_spot (y ∷ xs) p x m e n = go (eqb y.place p) refl n (Memᴰ.cases_cons m) (λ k. starts_spot xs p x k e)
  where
    go : (b : Bool) → eqb y.place p ≡ b → first_if b y (spot_in xs p) ≡ none → (x ≡ y) ⊎ Memᴰ x xs → (Memᴰ x xs → spot_in xs p ≡ none → ⊥) → ⊥
    go true q n c k = none_some (sym n)
    go false q n (inl a) k = let z : ◌≡◌ {A = ℕ} 0 1 = (let t = eq-eqb y.place p (sym (ap (λ (s : Spot). s.place) a) ∙ e) in cc) in omega arith
    go false q n (inr m) k = k m n

-- each place in the list of an accepted file's elements is one that a view accepts, and no other place is
pub view_accepts : (dim : ℕ) (s : List ℕ) (p e d m : ℕ) → judge_of dim s ≡ accepted_with e d m →
    (Starts (spots_of dim (words s)) p → Accepts (view_of dim s p)) × (Accepts (view_of dim s p) → Starts (spots_of dim (words s)) p)
unfolding view_of
view_accepts dim s p e d m q = rw (spotted_found dim s p e d m q) (go (spot_in (spots_of dim (words s)) p) refl)
  where
    go : (o : Option Spot) → spot_in (spots_of dim (words s)) p ≡ o →
        (Starts (spots_of dim (words s)) p → Accepts (view_by (found_by o) (words s) p)) × (Accepts (view_by (found_by o) (words s) p) → Starts (spots_of dim (words s)) p)
    go none i = (λ t. starts_spot (spots_of dim (words s)) p t.0 t.1 t.2 i, λ a. absurd a)
    go (some x) i = (λ t. tt, λ a. spot_starts (spots_of dim (words s)) p x i)
