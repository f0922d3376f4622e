-- The points that the calls give of an element make its body again: N and the points stand behind its header. So the call is not
-- refused, given room.
use Prim.Native.Nat.{ℕ, ◌+◌, ◌*◌, ◌%◌, ◌≤◌, ◌<◌}
use mathlib.Core.Path.{◌≡◌, refl, sym, ap, ◌∙◌, subst}
use mathlib.Core.Bool.{true, cond, not, ◌&&◌, ◌||◌}
use mathlib.Core.List.{List, [], ◌∷◌, map}
use native.Mathlib.Nat.{mul_comm}
use native.Mathlib.Omega.{arith}
use lib.ListN.{length, length-map}
use lib.IntN.{ℤ}
use lib.Dec.{eqb}
use borrow.Author.Tests.{eq-eqb}
use Rattle.limits.specs.Limits.{dim_ok}
use Rattle.limits.proofs.Dimensions.{by_dims}
use Rattle.words.specs.Words.{words, word_at, unsigned}
use Rattle.headers.specs.Header.{type_at, size_at, points_at, sizing_at}
use Rattle.kinds.specs.Kinds.{is_pointed, sizing_word, points_within, fixed_part}
use Rattle.elements.specs.Rules.{sized_ok, points_ok, fixed_ok}
use Rattle.grammar.proofs.Stands.{Stands, stands_nil, stands_join}
use Rattle.points_linkages.specs.Points.{before_points}
use Rattle.fields.specs.Words.{longs, count_words, points_in, point_words, element_words}
use Rattle.fields.specs.Faults.{is_written, points_fit, point_number_ok}
use Rattle.fields.specs.declared.Fields.{Fields}
use Rattle.fields.proofs.Bounds.{both, Called, by_kinds, fixed_is, fixed_least}
use Rattle.fields.proofs.Element.{formed, length_body}
use Rattle.fields.proofs.Writable.{Writable}
use Rattle.round_trips.specs.Parts.{with_points}
use Rattle.round_trips.specs.RoundTrip.{Given}
use Rattle.round_trips.proofs.OwnPoints.{sizing_at_lem}
use Rattle.round_trips.proofs.Spans.{stands_cons, stands_at, longs_stand}
use Rattle.round_trips.proofs.Coordinates.{given_count, given_length, given_longs}
use Rattle.round_trips.proofs.Made.{words_by}
use Rattle.round_trips.proofs.Rewrite.{view, small, dims, kind_is, written_kind, rules, ends_by, fields_right, tail_even, fixed_within, size_again, stands_again, small_again, linkages_again}

---- by the type: two points of a line, N of the others

-- how many points an element of a type has, with m in word 18
abbrev count_by : ℕ → ℕ → ℕ
count_by t m = cond (eqb t 3) 2 (cond (is_pointed t) m 0)

-- the words before the points: N is one of them, of the types that have it
before_by : (t n : ℕ) → is_written t ≡ true → cond (eqb t 3) 18 19 ≡ 18 + length (count_words t n)
before_by t n k = by_kinds (λ t. cond (eqb t 3) 18 19 ≡ 18 + length (count_words t n)) t k refl refl refl refl

-- so many points have a number of coordinates that the writer takes
fit_by : (dim t m p : ℕ) → dim_ok dim ≡ true → is_written t ≡ true → p ≡ dim * count_by t m → points_fit dim t p ≡ true
unfolding points_fit
fit_by dim t m p d k =
    by_kinds (λ t. p ≡ dim * count_by t m → points_fit dim t p ≡ true) t k
    (λ q. eq-eqb p (2 * dim) (q ∙ mul_comm dim 2)) whole whole whole
  where
    whole : p ≡ dim * m → eqb (p % dim) 0 ≡ true
    whole q = eq-eqb (p % dim) 0 (by_dims (λ d. p ≡ d * m → p % d ≡ 0) dim d (λ q. omega arith) (λ q. omega arith) q)

-- n points, as many as the element has: its fixed part, N in its range, and N in its place
module _ (dim t n m : ℕ) (k : is_written t ≡ true) (e : n ≡ count_by t m) where
  fixed_by : fixed_part dim t m ≡ fixed_part dim t n
  unfolding fixed_part
  fixed_by = by_kinds (λ t. n ≡ count_by t m → fixed_part dim t m ≡ fixed_part dim t n) t k (λ q. refl) (λ q. rw q refl) (λ q. rw q refl) (λ q. rw q refl) e

  count_by_lem : (not (is_pointed t) || points_within m) ≡ true → point_number_ok t n ≡ true
  unfolding point_number_ok
  count_by_lem =
      by_kinds (λ t. n ≡ count_by t m → (not (is_pointed t) || points_within m) ≡ true → point_number_ok t n ≡ true) t k
      (λ q h. refl) small small small e
    where
      small : n ≡ m → points_within m ≡ true → points_within n ≡ true
      small q h = rw q h

  count_stands : (ws : List ℕ) (p : ℕ) → word_at ws p ≡ m → p < length ws → Stands (count_words t n) p ws
  count_stands ws p w h = by_kinds (λ t. n ≡ count_by t m → Stands (count_words t n) p ws) t k (λ q. stands_nil p ws) one one one e
    where
      one : n ≡ m → Stands (n ∷ []) p ws
      one q = stands_cons n [] ws p h (w ∙ sym q) (stands_nil (p + 1) ws)

---- an element with points that is given

module _ {dim : ℕ} {s : List ℕ} {at : ℕ} {f : Fields} {points : List ℤ} {tail : List ℕ} (g : Given dim s at (with_points f points tail)) where
  count : points_in dim points ≡ count_by f.kind (points_at (words s) at)
  count =
      given_count dim s at (view g).found (dims g) points g.gives_body
      ∙ ap (λ t. count_by t (points_at (words s) at)) (kind_is g)

  fits : points_fit dim f.kind (length points) ≡ true
  fits =
      fit_by dim f.kind (points_at (words s) at) (length points) (dims g) (written_kind g)
      (given_length dim s at (view g).found (dims g) points g.gives_body
      ∙ ap (λ t. dim * count_by t (points_at (words s) at)) (kind_is g))

  pub call : Called dim f (length points) (length tail)
  call = record { dims = dims g; kind = written_kind g; fields = fields_right g; fit = fits; even = tail_even g }

  -- its fixed part
  pub fixed_same : fixed_part dim (type_at (words s) at) (sizing_at dim (words s) at) ≡ fixed_part dim f.kind (points_in dim points)
  fixed_same =
      ap (λ t. fixed_part dim t (word_at (words s) (at + sizing_word dim t))) (kind_is g)
      ∙ ap (λ w. fixed_part dim f.kind (word_at (words s) (at + w))) (sizing_at_lem dim f.kind (written_kind g))
      ∙ fixed_by dim f.kind (points_in dim points) (points_at (words s) at) (written_kind g) count

  fixed_words : fixed_part dim f.kind (points_in dim points) ≡ 18 + (length (count_words f.kind (points_in dim points)) + 2 * length points)
  fixed_words = fixed_is dim f.kind (length points) (dims g) (written_kind g) fits

  points_again : Stands (longs (map unsigned points)) (at + (18 + length (count_words f.kind (points_in dim points)))) (words s)
  points_again =
      let b : before_points (words s) at ≡ 18 + length (count_words f.kind (points_in dim points)) =
      ap (λ t. cond (eqb t 3) 18 19) (kind_is g) ∙ before_by f.kind (points_in dim points) (written_kind g) in
      let l = given_longs dim s at (view g).found (dims g) points g.gives_body (small g) in
      let m = length-map points unsigned in
      let x = fixed_words in
      let h = fixed_within g fixed_same in
      let e = ends_by g in
      longs_stand (words s) (small g) (at + (18 + length (count_words f.kind (points_in dim points)))) (map unsigned points) (rw b at l) (omega arith)

  body_again : Stands (point_words dim f.kind points) (at + 18) (words s)
  body_again =
      let n = count_words f.kind (points_in dim points) in
      let l = fixed_least dim f.kind (length points) (dims g) (written_kind g) fits in
      let h = fixed_within g fixed_same in
      let e = ends_by g in
      stands_join n (longs (map unsigned points))
      (count_stands dim f.kind (points_in dim points) (points_at (words s) at) (written_kind g) count (words s) (at + 18) refl (omega arith))
      (stands_at (at + 18 + length n) (omega arith) points_again)

  count_again : point_number_ok f.kind (points_in dim points) ≡ true
  unfolding fixed_ok
  count_again =
      let fixed = (both (sized_ok dim (words s) at) (points_ok (words s) at && _) (rules g).fixed).1 in
      count_by_lem dim f.kind (points_in dim points) (points_at (words s) at) (written_kind g) count
      (subst (λ t. (not (is_pointed t) || points_within (points_at (words s) at)) ≡ true) (kind_is g) (both (points_ok (words s) at) _ fixed).0)

  pub points_stand_again : Stands (words_by dim (with_points f points tail)) at (words s)
  points_stand_again = stands_again g fixed_same (formed dim f points tail call) (length_body dim f points tail call) body_again

  pub points_writable : (room : ℕ) → 2 * size_at (words s) at ≤ room → Writable dim f points tail room
  unfolding element_words
  points_writable room h =
      let e = size_again g fixed_same in
      let m = formed dim f points tail call in
      let l = length_body dim f points tail call in
      record {
        call = call;
        count = count_again;
        size = small_again g fixed_same m l body_again;
        linkages = linkages_again g fixed_same m l body_again;
        fits = omega arith;
      }
