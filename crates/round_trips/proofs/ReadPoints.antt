-- What the calls for points give of an element with points, where its words stand at a place of a file that has an element there.
use Prim.Native.Nat.{ℕ, ◌+◌, ◌*◌, ◌/◌, ◌<◌}
use mathlib.Core.Path.{◌≡◌, refl, sym, ap, ◌∙◌, subst}
use mathlib.Core.Bool.{true, cond}
use mathlib.Core.List.{List, ◌++◌, map}
use native.Mathlib.Omega.{arith}
use lib.ListN.{length}
use lib.IntN.{ℤ}
use lib.Dec.{eqb}
use borrow.Author.Tests.{lt-ltb, le-ltb, eqb-true}
use Rattle.words.specs.Words.{words, word_at, unsigned}
use Rattle.headers.specs.Header.{type_at}
use Rattle.kinds.specs.Kinds.{is_pointed}
use Rattle.grammar.proofs.Stands.{Stands, stands_left, stands_right}
use Rattle.places.specs.declared.Above.{Above}
use Rattle.places.specs.Places.{spotted_at}
use Rattle.points_linkages.specs.Points.{before_points, point_at, point_of, point_count}
use Rattle.points_linkages.specs.Coordinates as numbers
use Rattle.points_linkages.proofs.Coordinates.{points_longs}
use Rattle.fields.specs.Words.{longs, header_words, count_words, points_in, size_of, point_words, element_of}
use Rattle.fields.specs.Faults.{points_fit}
use Rattle.fields.specs.declared.Fields.{Fields}
use Rattle.limits.proofs.Dimensions.{by_dims}
use Rattle.fields.proofs.Bounds.{by_kinds, count_whole}
use Rattle.fields.proofs.Element.{length_header}
use Rattle.fields.proofs.Writable.{Writable}
use Rattle.places.specs.Spotted.{spotted_with}
use Rattle.refusals.specs.Refusals.{refused_with}
use Rattle.round_trips.specs.Parts.{GivesPoints}
use Rattle.round_trips.specs.RoundTrip.{Longs}
use Rattle.round_trips.proofs.OwnPoints.{owned_points}
use Rattle.round_trips.proofs.Local.{type_there, word_there}
use Rattle.round_trips.proofs.Numbers.{numbers_stand}

module _ {dim : ℕ} {f : Fields} {ps : List ℤ} {tail : List ℕ} {room : ℕ} (w : Writable dim f ps tail room)
    {ws : List ℕ} {at : ℕ} (stands : Stands (element_of f (size_of dim f ps tail) (point_words dim f.kind ps) tail) at ws) where
  kind_there : type_at ws at ≡ f.kind
  kind_there = type_there (owned_points w) stands

  -- how many there are
  count_there : point_count ws at ≡ points_in dim ps
  unfolding header_words points_fit
  count_there =
      rw (kind_there, word_there (owned_points w) stands 18 (omega arith))
      (by_kinds (λ t. points_fit dim t (length ps) ≡ true →
      cond (eqb t 3) 2 (cond (is_pointed t) (word_at ((count_words t (points_in dim ps) ++ longs (map unsigned ps)) ++ words tail) 0) 0) ≡ points_in dim ps)
      f.kind w.call.kind
      (by_dims (λ m. eqb (length ps) (2 * m) ≡ true → 2 ≡ length ps / m) dim w.call.dims (λ e. omega (arith, eqb-true (length ps) 4 e)) (λ e. omega (arith, eqb-true (length ps) 6 e)))
      (λ e. refl) (λ e. refl) (λ e. refl) w.call.fit)

  before_there : before_points ws at ≡ 18 + length (count_words f.kind (points_in dim ps))
  before_there =
      rw kind_there
      (by_kinds (λ t. cond (eqb t 3) 18 19 ≡ 18 + length (count_words t (points_in dim ps))) f.kind w.call.kind refl refl refl refl)

  points_stand : Stands (longs (map unsigned ps)) (at + before_points ws at) ws
  points_stand =
      let header = header_words f (size_of dim f ps tail) in
      let count = count_words f.kind (points_in dim ps) in
      let points = longs (map unsigned ps) in
      let l = length_header f (size_of dim f ps tail) in
      let b = before_there in
      let e : at + length header + length count ≡ at + before_points ws at = omega arith in
      subst (λ q. Stands points q ws) e (stands_right count points (stands_left (count ++ points) (words tail) (stands_right header ((count ++ points) ++ words tail) stands)))

---- in a file whose list of elements has one at the place

module _ {dim : ℕ} {f : Fields} {ps : List ℤ} {tail : List ℕ} {room : ℕ} (w : Writable dim f ps tail room)
    (s : List ℕ) {at : ℕ} (stands : Stands (element_of f (size_of dim f ps tail) (point_words dim f.kind ps) tail) at (words s))
    {end depth : ℕ} {above : Above} (found : spotted_at dim s at ≡ spotted_with end depth above) where
  point_there : (k : ℕ) → k < points_in dim ps → point_of dim s at k ≡ point_at dim (words s) (at + before_points (words s) at + 2 * dim * k)
  unfolding point_of
  point_there k h = rw (found, count_there w stands, lt-ltb k (points_in dim ps) h) refl

  no_point : point_of dim s at (points_in dim ps) ≡ refused_with 13 0
  unfolding point_of
  no_point = rw (found, count_there w stands, le-ltb (points_in dim ps) (points_in dim ps) (omega arith)) refl

  pub points_given : Longs ps → GivesPoints dim s at ps
  points_given l =
      let c = w.call in
      let start = at + before_points (words s) at in
      let first : start + 2 * dim * 0 ≡ start = by_dims (λ m. start + 2 * m * 0 ≡ start) dim c.dims (omega arith) (omega arith) in
      record {
        all =
            points_longs dim c.dims s at start (points_in dim ps) point_there (points_in dim ps) 0 (omega arith)
            ∙ ap (numbers.longs (dim * points_in dim ps) (words s)) first
            ∙ ap (λ n. numbers.longs n (words s) start) (sym (count_whole dim f.kind (length ps) c.dims c.kind c.fit))
            ∙ numbers_stand ps (words s) start l (points_stand w stands);
        no_more = no_point;
      }
