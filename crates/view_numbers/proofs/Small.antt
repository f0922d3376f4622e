-- Every number of a view is small, so that each is given as it is.
use Prim.Native.Nat.{ℕ, ◌+◌, ◌/◌, ◌%◌, ◌<◌, ◌≤◌}
use mathlib.Core.Path.{◌≡◌, refl, ap, ◌∙◌}
use mathlib.Core.Bool.{Bool, true, false, cond}
use mathlib.Core.List.{List, [], ◌∷◌, ◌++◌, map}
use mathlib.Core.Option.{Option, none, some}
use native.Mathlib.Omega.{arith}
use lib.Dec.{eqb, leb}
use lib.ListN.{length}
use lib.Seq.{sets}
use lib.IntN.{ℤ, pos}
use lib.Signed.{mag}
use borrow.Author.Tests.{lt-ltb, le-leb}
use Rattle.words.specs.Words.{words, Below, word_at, long_at}
use Rattle.words.proofs.Laws.{words_below}
use Rattle.ranges.proofs.Ranges.{coordinate_small}
use Rattle.kinds.specs.FirstWord.{bit, level_of, c_of, deleted_of}
use Rattle.kinds.specs.Kinds.{is_header, is_counted, is_pointed, is_linked, is_cell}
use Rattle.kinds.proofs.Types.{Each}
use Rattle.headers.specs.Header.{type_at, size_at, name_first, name_second, name_place}
use Rattle.files.specs.Judge.{judge_of}
use Rattle.files.specs.Spots.{Spot, spots_of, spot_in}
use Rattle.places.specs.Places.{above_of, spotted_by, spotted_at}
use Rattle.views.specs.Views.{coordinate_at, range_of, display_of, number_if, name_words, element_view, view_by, view_of}
use Rattle.views.specs.declared.Element.{Element}
use Rattle.answers.proofs.Elements.{HeaderBelow, Standing, element_standing}
use Rattle.order.specs.Parts.{Within}
use Rattle.view_numbers.specs.Numbers.{above_numbers, number_numbers, range_numbers, display_numbers, name_numbers, common_numbers, kind_numbers, view_numbers, view_given, as_signed, put_view}
use Rattle.std.specs.Prelude.{Err, None, Ok, Result, Option as Maybe}
use Rattle.files.specs.declared.Accepted.{Accepted}
use Rattle.refusals.specs.declared.Refusal.{Refusal}
use Rattle.refusals.proofs.Laws.{given_is, given_not_refused}
use Rattle.views.specs.Display.{display_with}
use Rattle.views.specs.Name.{name_with}
use Rattle.views.specs.Range.{longs_with}
use Rattle.views.specs.declared.Range.{Range}

-- each number of a list is below 2,147,483,648
pub record Small (xs : List ℕ) : Type 0 where
  pub each : Each (λ n. n < 2147483648) xs

-- so is each of a view, and the coordinates of its range are from -2,147,483,648 to 2,147,483,647
pub record SmallView (place : ℕ) (e : Element) : Type 0 where
  pub common : Small (common_numbers e)
  pub range : Within 2147483648 (range_numbers e.range)
  pub kind : Small (kind_numbers place e)

small_rest : {x : ℕ} {xs : List ℕ} → Small (x ∷ xs) → Small xs
small_rest h = record { each = h.each.1 }

small_lists : (xs ys : List ℕ) → Small xs → Small ys → Small (xs ++ ys)
small_lists [] ys h l = l
small_lists (x ∷ xs) ys h l = let r = small_lists xs ys (small_rest h) l in record { each = (h.each.0, r.each) }

small_append : {xs ys : List ℕ} → Small xs → Small ys → Small (xs ++ ys)
small_append {xs} {ys} h l = small_lists xs ys h l

as_is : (xs : List ℕ) → Small xs → map as_signed xs ≡ map pos xs
as_is [] h = refl
as_is (x ∷ xs) h = let l = h.each.0 in simp (lt-ltb x 9223372036854775808 (omega arith), as_is xs (small_rest h))

bit_small : (b : Bool) → bit b < 2147483648
bit_small true = omega arith
bit_small false = omega arith

above_small : (h : Option ℕ) → HeaderBelow 524288 h → Small (above_numbers (above_of h))
above_small none l = record { each = (omega arith, (omega arith, tt)) }
above_small (some h) l = record { each = (omega arith, (omega arith, tt)) }

number_small : (b : Bool) (n : ℕ) → n < 2147483648 → Small (number_numbers (number_if b n))
number_small true n h = record { each = (omega arith, (h, tt)) }
number_small false n h = record { each = (omega arith, (omega arith, tt)) }

module _ (ws : List ℕ) (below : Below 65536 ws) where
  word_small : (i : ℕ) → word_at ws i < 2147483648
  word_small i = let l = below i in omega arith

  long_small : (i : ℕ) → mag (coordinate_at ws i) < 2147483648
  long_small i = let l = below i in let m = below (i + 1) in coordinate_small (long_at ws i) (omega arith)

  module _ (at : ℕ) where
    display_small : Small (display_numbers (display_of ws at))
    unfolding display_of
    display_small = go (is_linked (type_at ws at))
      where
        go : (b : Bool) →
            Small (display_numbers (cond b (display_with (word_at ws (at + 14)) (word_at ws (at + 15)) (word_at ws (at + 16)) (word_at ws (at + 17) % 8) (word_at ws (at + 17) / 8 % 32)
            (word_at ws (at + 17) / 256)) None))
        go true =
            let l = below (at + 17) in
            record { each = (omega arith, (word_small (at + 14), (word_small (at + 15), (word_small (at + 16), (omega arith, (omega arith, (omega arith, tt))))))) }
        go false = record { each = (omega arith, (omega arith, (omega arith, (omega arith, (omega arith, (omega arith, (omega arith, tt))))))) }

    name_small : Small (name_numbers (name_words ws at))
    unfolding name_words
    name_small = go (is_cell (type_at ws at))
      where
        go : (b : Bool) → Small (name_numbers (cond b (name_with (name_first ws at) (name_second ws at)) None))
        go true = record { each = (omega arith, (word_small (name_place ws at), (word_small (name_place ws at + 1), tt))) }
        go false = record { each = (omega arith, (omega arith, (omega arith, tt))) }

    own_small : (depth : ℕ) → depth ≤ 8 →
        Small (level_of (word_at ws at) ∷ bit (eqb (c_of (word_at ws at)) 1) ∷ type_at ws at ∷ bit (eqb (deleted_of (word_at ws at)) 1) ∷ size_at ws at ∷ depth ∷ [])
    own_small depth h =
        let c = bit_small (eqb (c_of (word_at ws at)) 1) in
        let deleted = bit_small (eqb (deleted_of (word_at ws at)) 1) in
        record { each = (omega arith, (c, (omega arith, (deleted, (omega (arith, below (at + 1)), (omega arith, tt)))))) }

    range_small : Within 2147483648 (range_numbers (range_of ws at))
    unfolding range_of
    range_small = go (leb 14 (size_at ws at))
      where
        longs : Maybe Range
        longs = longs_with (coordinate_at ws (at + 2)) (coordinate_at ws (at + 4)) (coordinate_at ws (at + 6)) (coordinate_at ws (at + 8)) (coordinate_at ws (at + 10)) (coordinate_at ws (at + 12))

        go : (b : Bool) → Within 2147483648 (range_numbers (cond b longs None))
        go true =
            (omega arith, (long_small (at + 2), (long_small (at + 4), (long_small (at + 6), (long_small (at + 8), (long_small (at + 10), (long_small (at + 12), tt)))))))
        go false = (omega arith, (omega arith, (omega arith, (omega arith, (omega arith, (omega arith, (omega arith, tt)))))))

    -- the view of an element that stands in a file
    pub element_small : (x : Spot) → Standing 524288 at x → SmallView at (element_view ws at x.depth (above_of x.header))
    unfolding element_view
    element_small x h =
        let t = type_at ws at in
        let tail : Small (at ∷ []) = record { each = (omega (arith, h.below), tt) } in
        record {
          common = small_append (own_small x.depth h.deep) (above_small x.header h.header);
          range = range_small;
          kind = small_append display_small (small_append (number_small (is_pointed t) _ (word_small (at + 18))) (small_append name_small
              (small_append (number_small (is_header t) _ (word_small (at + 18))) (small_append (number_small (is_counted t) _ (word_small (at + 19))) tail))));
        }

-- so a view is given as it is
pub given_as_is : (place : ℕ) (e : Element) → SmallView place e → view_numbers as_signed place e ≡ view_given place e
given_as_is place e l =
    ap (λ x. x ++ (range_numbers e.range ++ map as_signed (kind_numbers place e))) (as_is (common_numbers e) l.common)
    ∙ ap (λ x. map pos (common_numbers e) ++ (range_numbers e.range ++ x)) (as_is (kind_numbers place e) l.kind)

pub put_as_is : (s t : List ℤ) (at place : ℕ) (e : Element) → at + 32 ≤ length s → SmallView place e → t ≡ put_view s at place e → t ≡ sets s at (view_given place e)
unfolding put_view
put_as_is s t at place e h l q = rw (le-leb (at + 32) (length s) h) at q ∙ ap (sets s at) (given_as_is place e l)

-- the numbers of a view of lent bytes
pub view_numbers_small : (dim : ℕ) (s : List ℕ) (at : ℕ) (e : Element) → Below 256 s → view_of dim s at ≡ Ok e → SmallView at e
unfolding view_of spotted_at
view_numbers_small dim s at e b q = go (judge_of dim s) refl (spot_in (spots_of dim (words s)) at) refl q
  where
    go : (j : Result Accepted Refusal) → judge_of dim s ≡ j → (o : Option Spot) → spot_in (spots_of dim (words s)) at ≡ o → view_by (spotted_by j o) (words s) at ≡ Ok e → SmallView at e
    go (Err refusal) h o i q = absurd (given_not_refused q)
    go (Ok file) h none i q = absurd (given_not_refused q)
    go (Ok file) h (some x) i q =
        rw (given_is q) at (element_small (words s) (words_below s b) at x (element_standing dim s file.elements file.deepest file.marker h at x i))
