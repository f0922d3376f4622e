-- The linkages that fill a part as a list of their words, and what is given of the one of number k (RULES.md,
-- "Attribute linkages").
use Rattle.std.specs.Prelude.{ℕ, ◌+◌, ◌-◌, ◌≤◌, ◌≡◌, List, [], ◌∷◌, ◌++◌, cond, ltb, length, take, drop, get_or, None, Option}
use Rattle.words.specs.Words.{word_at}
use Rattle.linkages.specs.Linkages.{is_user, IsLinkage}
use Rattle.linkages.specs.Linkage.{linkage_with}
use Rattle.linkages.specs.declared.Linkage.{Linkage}

-- each of them is a linkage
abbrev pub Each : List (List ℕ) → Type 0
Each [] = Unit {0}
Each (x ∷ xs) = IsLinkage x × Each xs

-- their words, one after another
abbrev pub joined : List (List ℕ) → List ℕ
joined [] = []
joined (x ∷ xs) = x ++ joined xs

-- they fill the words from the place `at` to the place `end` exactly
pub record FilledBy (xs : List (List ℕ)) (ws : List ℕ) (at end : ℕ) : Type 0 where
  pub from : at ≤ end
  pub by : end ≤ length ws
  pub each : Each xs
  pub whole : take (end - at) (drop at ws) ≡ joined xs

-- what is given of a linkage at a place: its kind, its place, its size, and its id, a user linkage's second word and 0 of any
-- other
abbrev pub given : List ℕ → ℕ → Option Linkage
given x place = linkage_with (is_user (word_at x 0)) place (length x) (cond (is_user (word_at x 0)) (word_at x 1) 0)

-- the k-th, counted from 0, of those that stand from the place `at` on, behind the words of those before it; nothing where
-- there are no more than k
abbrev pub kth : List (List ℕ) → ℕ → ℕ → Option Linkage
kth xs at k = cond (ltb k (length xs)) (given (get_or xs k []) (at + length (joined (take k xs)))) None
