-- The points of an element by number (RULES.md, "Reading calls"): ws are the file's words, at is the element's
-- place.
use Rattle.std.specs.Prelude.{ℕ, ◌+◌, ◌*◌, List, cond, eqb, ltb, Err, Ok, Result}
use Rattle.words.specs.Words.{words, long_at, signed}
use Rattle.headers.specs.Header.{type_at, points_at}
use Rattle.kinds.specs.Kinds.{is_pointed}
use Rattle.places.specs.Places.{spotted_at}
use Rattle.places.specs.declared.Spotted.{Spotted}
use Rattle.points_linkages.specs.PointAnswers.{flat_point, solid_point}
use Rattle.points_linkages.specs.declared.Point.{Point}
use Rattle.refusals.specs.Refusals.{refused_with}
use Rattle.refusals.specs.declared.Refusal.{Refusal}

-- how many points an element has: two of a line, N of types 4, 6, 11, 21
abbrev pub point_count : List ℕ → ℕ → ℕ
point_count ws at = cond (eqb (type_at ws at) 3) 2 (cond (is_pointed (type_at ws at)) (points_at ws at) 0)

-- the words before its points: a line's points begin at word 18, the others' at word 19
abbrev pub before_points : List ℕ → ℕ → ℕ
before_points ws at = cond (eqb (type_at ws at) 3) 18 19

-- where point k begins
abbrev pub point_place : ℕ → List ℕ → ℕ → ℕ → ℕ
point_place dim ws at k = at + before_points ws at + 2 * dim * k

abbrev pub point_at : ℕ → List ℕ → ℕ → Result Point Refusal
point_at dim ws q =
    cond (eqb dim 2) (flat_point (signed (long_at ws q)) (signed (long_at ws (q + 2))))
    (solid_point (signed (long_at ws q)) (signed (long_at ws (q + 2))) (signed (long_at ws (q + 4))))

-- point k, from 0; 13 for a number not there or another type
abbrev pub point_by : Result Spotted Refusal → ℕ → List ℕ → ℕ → ℕ → Result Point Refusal
point_by (Ok spot) dim ws at k =
    cond (ltb k (point_count ws at)) (point_at dim ws (point_place dim ws at k)) (refused_with 13 0)
point_by (Err refusal) dim ws at k = Err refusal

unfoldable pub point_of : ℕ → List ℕ → ℕ → ℕ → Result Point Refusal
point_of dim s at k = point_by (spotted_at dim s at) dim (words s) at k
