-- The linkages of an element that has attributes, as a list, and what the call for linkage k gives of them.
use Rattle.std.specs.Prelude.{ℕ, ◌+◌, ◌≡◌, List}
use Rattle.words.specs.Words.{words}
use Rattle.linkages.specs.Listed.{FilledBy, kth}
use Rattle.headers.specs.Header.{size_at, attribute_part_at}
use Rattle.points_linkages.specs.Linkages.{attribute_by, linkage_of}

-- they fill the attribute part of the element at a place, and linkage k is the k-th of them, 13 at 0 where there are no more
-- than k
pub record ByNumber (dim : ℕ) (s : List ℕ) (place : ℕ) : Type 0 where
  pub linkages : List (List ℕ)
  pub fill : FilledBy linkages (words s) (place + attribute_part_at (words s) place) (place + size_at (words s) place)
  pub gives : (k : ℕ) → linkage_of dim s place k ≡ attribute_by (kth linkages (place + attribute_part_at (words s) place) k)
