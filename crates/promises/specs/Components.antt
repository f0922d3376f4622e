-- An element of an accepted file and its direct components: those of the file's elements whose direct header it is. They stand one
-- behind another, each with its extent, from the end of its own words to the end of its extent.
use Rattle.std.specs.Prelude.{ℕ, ◌+◌, ◌≤◌, ◌≡◌, Bool, true, false, List, [], ◌∷◌, length, eqb}
use Rattle.std.proofs.Math.Option.{Option, none, some}
use Rattle.refusals.specs.Refusals.{refused_with}
use Rattle.words.specs.Words.{words}
use Rattle.kinds.specs.Kinds.{fixed_part}
use Rattle.headers.specs.Header.{type_at, size_at, sizing_at, extent_words}
use Rattle.files.specs.Judge.{judge_of}
use Rattle.files.specs.Refused.{RefusedBy}
use Rattle.files.specs.Spots.{Spot, spots_of, spot_in}
use Rattle.files.specs.Accepted.{accepted_with}
use Rattle.places.specs.Places.{spotted_at}
use Rattle.places.specs.declared.Above.{Above}
use Rattle.places.specs.Spotted.{spotted_with}

---- an element that a call at a place finds

pub record FoundAt (dim : ℕ) (s : List ℕ) (at end : ℕ) : Type 0 where
  pub elements : ℕ
  pub deepest : ℕ
  pub marker : ℕ
  pub judged : judge_of dim s ≡ accepted_with elements deepest marker
  pub spot : Spot
  pub is : spot_in (spots_of dim (words s)) at ≡ some spot
  pub ends : spot.end ≡ end

-- the file is accepted, and it is one of its elements
abbrev pub PlaceFound : Type 0
PlaceFound = (dim : ℕ) (s : List ℕ) (at end depth : ℕ) (above : Above) → spotted_at dim s at ≡ spotted_with end depth above → FoundAt dim s at end

-- where none is found, the file's own refusals, else 13 at 0
abbrev pub PlaceRefused : Type 0
PlaceRefused = (dim : ℕ) (s : List ℕ) (at n p : ℕ) → spotted_at dim s at ≡ refused_with n p → RefusedBy dim s (13 ∷ []) n p

---- its words and its direct components

-- whether the direct header of an element is the one at a place
abbrev pub is_under : Option ℕ → ℕ → Bool
is_under none at = false
is_under (some h) at = eqb h at

abbrev pub place_if : Bool → ℕ → List ℕ → List ℕ
place_if true q qs = q ∷ qs
place_if false q qs = qs

-- the places of the direct components of the element at a place, in file order
abbrev pub direct_places : List Spot → ℕ → List ℕ
direct_places [] at = []
direct_places (x ∷ xs) at = place_if (is_under x.header at) x.place (direct_places xs at)

-- elements that stand one behind another, each with its extent, from a place to an end
abbrev pub Behind : List ℕ → ℕ → List ℕ → ℕ → Type 0
Behind ws here [] end = here ≡ end
Behind ws here (q ∷ qs) end = (q ≡ here) × Behind ws (here + extent_words ws here) qs end

pub record Composed (dim : ℕ) (ws : List ℕ) (at : ℕ) (x : Spot) : Type 0 where
  pub place : x.place ≡ at
  -- its own words, which are not fewer than its fixed part, and its extent, which ends by the words' end
  pub fixed : fixed_part dim (type_at ws at) (sizing_at dim ws at) ≤ size_at ws at
  pub own : at + size_at ws at ≤ x.end
  pub extent : x.end ≡ at + extent_words ws at
  pub inside : x.end ≤ length ws
  pub components : Behind ws (at + size_at ws at) (direct_places (spots_of dim ws) at) x.end

abbrev pub ComponentsAre : Type 0
ComponentsAre =
    (dim : ℕ) (s : List ℕ) (e d m at : ℕ) (x : Spot) → judge_of dim s ≡ accepted_with e d m → spot_in (spots_of dim (words s)) at ≡ some x →
    Composed dim (words s) at x
