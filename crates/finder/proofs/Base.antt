-- Asked for deleted cells too, the finder is the one that it was: every element with the name is wanted.
use Prim.Native.Nat.{ℕ, ◌+◌}
use mathlib.Core.Path.{◌≡◌, refl, ap₂}
use mathlib.Core.Bool.{Bool, true, false, ◌&&◌}
use mathlib.Core.List.{List, [], ◌∷◌}
use Rattle.words.specs.Words.{words}
use Rattle.names.specs.Names.{packed}
use Rattle.files.specs.Judge.{judge_of}
use Rattle.files.specs.Spots.{Spot, spots_of}
use Rattle.finder.specs.declared.Wanted.TheVariants.{WithDeleted}
use Rattle.finder.specs.Finder.{has_name, is_hit, hit_if, first_named, find_by, find_of}
use Rattle.finder.specs.Base as base
use Rattle.std.specs.Prelude.{Err, Ok, Result}
use Rattle.files.specs.declared.Accepted.{Accepted}
use Rattle.names.specs.declared.Name.{Name}
use Rattle.refusals.specs.declared.Refusal.{Refusal}

and-true : (b : Bool) → (b && true) ≡ b
and-true true = refl
and-true false = refl

hit_named : (ws : List ℕ) (at a b : ℕ) → is_hit WithDeleted ws at a b ≡ has_name ws at a b
unfolding is_hit
hit_named ws at a b = and-true (has_name ws at a b)

pub first_as_base : (ws : List ℕ) (a b n : ℕ) (xs : List Spot) → first_named WithDeleted ws a b n xs ≡ base.first_named ws a b n xs
first_as_base ws a b n [] = refl
first_as_base ws a b n (x ∷ xs) =
    ap₂ (λ h r. hit_if h x.place n r) (hit_named ws x.place a b) (first_as_base ws a b (n + 1) xs)

pub asked_as_base : (dim : ℕ) (s t : List ℕ) → find_of WithDeleted dim s t ≡ base.find_of dim s t
unfolding find_of base.find_of
asked_as_base dim s t = go (judge_of dim s) (packed t)
  where
    go : (j : Result Accepted Refusal) (p : Result Name Refusal) → find_by WithDeleted j p (words s) (spots_of dim (words s)) ≡ base.find_by j p (words s) (spots_of dim (words s))
    go (Err refusal) t = refl
    go (Ok file) (Err refusal) = refl
    go (Ok file) (Ok name) = first_as_base (words s) name.first name.second 0 (spots_of dim (words s))
