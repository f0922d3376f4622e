-- The elements of a file in file order: one list, over which every call at a place, the finder, the listing and the edits
-- are stated, and whose length is the element count.
use Rattle.std.specs.Prelude.{ℕ, zero, suc, ◌+◌, max, List, [], ◌∷◌, ◌++◌, Bool, true, false, length, eqb}
use Rattle.std.proofs.Math.Option.{Option, none, some}
use Rattle.headers.specs.Header.{type_at}
use Rattle.elements.specs.Rules.{head_of}
use Rattle.elements.specs.declared.Head.{Head}
use Rattle.elements.specs.declared.Head.TheVariants.{Bad, Plain, Complex}
use Rattle.files.specs.Ends.{stop_of}
use Rattle.files.specs.declared.Stop.{Stop}
use Rattle.files.specs.declared.Stop.TheVariants.{More, Done, Lacking}

-- an element: where it starts, where its extent ends, its depth, and its direct header's place (none at the top)
pub record Spot : Type 0 where
  pub place : ℕ
  pub end : ℕ
  pub depth : ℕ
  pub header : Option ℕ

-- the greatest depth, 0 if there is no element
abbrev pub deepest : List Spot → ℕ
deepest [] = 0
deepest (x ∷ xs) = max x.depth (deepest xs)

-- an element, the elements under it, then those that follow it in its list
abbrev pub spots_by : Stop → Head → ℕ → ℕ → Option ℕ → (ℕ → ℕ → List Spot) → (ℕ → List Spot) → List Spot
spots_by Done h at depth header inside rest = []
spots_by Lacking h at depth header inside rest = []
spots_by More (Bad n) at depth header inside rest = []
spots_by More (Plain next) at depth header inside rest =
    record { place = at; end = next; depth = depth; header = header } ∷ rest next
spots_by More (Complex inner end) at depth header inside rest =
    record { place = at; end = end; depth = depth; header = header } ∷ (inside inner end ++ rest end)

-- the first number bounds how many elements follow or stand under one another; every element has a word
unfoldable pub spots_from : ℕ → ℕ → ℕ → ℕ → Option ℕ → List ℕ → ℕ → ℕ → List Spot
spots_from zero dim depth under header ws at bound = []
spots_from (suc n) dim depth under header ws at bound =
    spots_by (stop_of depth ws at bound) (head_of dim depth under ws at bound) at depth header
    (λ inner end. spots_from n dim (depth + 1) (type_at ws at) (some at) ws inner end)
    (λ next. spots_from n dim depth under header ws next bound)

-- the elements of a file, all depths, in file order
unfoldable pub spots_of : ℕ → List ℕ → List Spot
spots_of dim ws = spots_from (suc (length ws)) dim 0 0 none ws 0 (length ws)

-- the first of two where a test holds
abbrev pub first_if : Bool → Spot → Option Spot → Option Spot
first_if true x rest = some x
first_if false x rest = rest

-- the element that starts at a place
abbrev pub spot_in : List Spot → ℕ → Option Spot
spot_in [] p = none
spot_in (x ∷ xs) p = first_if (eqb x.place p) x (spot_in xs p)
