-- Each answer about an extent or a point as numbers. The library's own definitions decide it.
use Rattle.std.specs.Prelude.{ℕ, [], ◌∷◌, ℤ, pos, Err, Ok, Result}
use Rattle.points_linkages.specs.declared.Point.TheVariants as points
use Rattle.answers.specs.Answers.{Reply, done, refuse}
use Rattle.places.specs.declared.Extent.{Extent}
use Rattle.points_linkages.specs.declared.Point.{Point}
use Rattle.refusals.specs.declared.Refusal.{Refusal}

-- the first word, and the word after the last
abbrev pub extent_reply : Result Extent Refusal → Reply ℕ
extent_reply (Ok extent) = done (extent.start ∷ extent.end ∷ [])
extent_reply (Err refusal) = refuse refusal.number refusal.place

-- the signed coordinates, z 0 in a 2D file
abbrev pub point_reply : Result Point Refusal → Reply ℤ
point_reply (Ok (points.Flat x y)) = done (x ∷ y ∷ pos 0 ∷ [])
point_reply (Ok (points.Solid x y z)) = done (x ∷ y ∷ z ∷ [])
point_reply (Err refusal) = refuse refusal.number refusal.place
