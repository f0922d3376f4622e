-- The element structure (RULES.md, "Complex elements") as two meanings, each naming the other, over exact words joined by ++. It
-- names no order of checks and no number. `depth` is how many headers stand above, `under` the type of the direct
-- header (0 at the top).
use Rattle.std.specs.Prelude.{ℕ, suc, ◌+◌, ◌≡◌, List, [], ◌∷◌, ◌++◌, length}
use Rattle.std.proofs.Math.Option.{Option, none, some}
use Rattle.files.specs.Spots.{Spot}
use Rattle.grammar.specs.Own.{type_in, Own}

-- an element is its own words and then its components; the list is of all elements, itself first, in file order
mutual
  pub data Element (dim : ℕ) : ℕ → ℕ → Option ℕ → ℕ → List Spot → List ℕ → Type 0 where
    element : {depth under : ℕ} {header : Option ℕ} {at : ℕ} {xs : List Spot} {ws : List ℕ} (n : ℕ) (own inside : List ℕ) (ys : List Spot) →
        ws ≡ own ++ inside → xs ≡ record { place = at; end = at + length ws; depth = depth; header = header } ∷ ys →
        Own dim depth under own (length inside) n → Components dim (suc depth) (type_in own) (some at) (at + length own) n ys inside →
        Element dim depth under header at xs ws

  -- n elements, one after another, from the place at on
  pub data Components (dim : ℕ) : ℕ → ℕ → Option ℕ → ℕ → ℕ → List Spot → List ℕ → Type 0 where
    no_more : {depth under : ℕ} {header : Option ℕ} {at : ℕ} → Components dim depth under header at 0 [] []
    more : {depth under : ℕ} {header : Option ℕ} {at n : ℕ} {xs : List Spot} {ws : List ℕ} (x rest : List ℕ) (ys zs : List Spot) →
        ws ≡ x ++ rest → xs ≡ ys ++ zs →
        Element dim depth under header at ys x → Components dim depth under header (at + length x) n zs rest →
        Components dim depth under header at (suc n) xs ws

-- a file: elements at the top, the marker's word 65535, then anything
pub record File (dim : ℕ) (ws : List ℕ) (xs : List Spot) (marker : ℕ) : Type 0 where
  pub body : List ℕ
  pub after : List ℕ
  pub direct : ℕ
  pub whole : ws ≡ body ++ (65535 ∷ after)
  pub elements : Components dim 0 0 none 0 direct xs body
  pub end : length body ≡ marker
