-- The parts of a view put one behind another, and all of it put into a slice.
use Prim.Native.Nat.{ℕ, suc, ◌+◌, ◌<◌, ◌≤◌}
use mathlib.Core.Path.{◌≡◌, refl, sym, ap, ◌∙◌}
use mathlib.Core.Bool.{Bool, true, false, cond}
use mathlib.Core.List.{List, [], ◌∷◌, ◌++◌, map, map-append, append_assoc}
use native.Mathlib.Omega.{arith}
use native.Mathlib.Numerals.{towards_suc}
use lib.ListN.{length, get_or, set, length-append, length-map, get_or-map}
use lib.Seq.{sets, sets-eq, paste, paste-suc, take_all}
use lib.IntN.{ℤ, pos}
use lib.Dec.{ltb}
use mir.Syntax.{w64}
use mir.Val.{SFits}
use borrow.Author.Tests.{ltb-true, le-leb, lt-leb}
use Rattle.answers.proofs.Besides.{put_then}
use Rattle.places.specs.declared.Above.{Above}
use Rattle.places.specs.declared.Above.TheVariants as aboves
use Rattle.views.specs.declared.Element.{Element}
use Rattle.kinds.specs.FirstWord.{bit}
use Rattle.view_numbers.specs.Numbers.{above_numbers, number_numbers, range_numbers, display_numbers, name_numbers, common_numbers, kind_numbers, view_numbers, as_signed, put_view}
use Rattle.std.specs.Prelude.{None, Option, Some}
use Rattle.views.specs.Range.{longs_with}
use Rattle.views.specs.declared.Display.{Display}
use Rattle.views.specs.declared.Name.{Name}
use Rattle.views.specs.declared.Range.{Range}

-- how many numbers each part of a view has
above_two : (x : Above) → length (above_numbers x) ≡ 2
above_two aboves.Top = refl
above_two (aboves.Under place) = refl

number_two : (x : Option ℕ) → length (number_numbers x) ≡ 2
number_two None = refl
number_two (Some value) = refl

range_seven : (x : Option Range) → length (range_numbers x) ≡ 7
range_seven None = refl
range_seven (Some range) = refl

display_seven : (x : Option Display) → length (display_numbers x) ≡ 7
display_seven None = refl
display_seven (Some display) = refl

name_three : (x : Option Name) → length (name_numbers x) ≡ 3
name_three None = refl
name_three (Some name) = refl

-- the parts of a view put one behind another
abbrev own : Element → List ℕ
own e = e.level ∷ bit e.c ∷ e.kind ∷ bit e.deleted ∷ e.size ∷ e.depth ∷ []

pub common_put : (s : List ℤ) (at : ℕ) (e : Element) →
    sets s at (map as_signed (common_numbers e)) ≡ sets (sets s at (map as_signed (own e))) (at + 6) (map as_signed (above_numbers e.above))
common_put s at e = sym (put_then s at (map as_signed (own e)) (map as_signed (above_numbers e.above)) (at + 6) refl)

-- the seven numbers of a range, one by one
pub range_put : (s : List ℤ) (at : ℕ) (a b c d e f : ℤ) →
    set (set (set (set (set (set (set s at (pos 1)) (at + 1) a) (at + 2) b) (at + 3) c) (at + 4) d) (at + 5) e) (at + 6) f
    ≡ sets s at (range_numbers (longs_with a b c d e f))
range_put s at a b c d e f = simp towards_suc

-- numbers behind others, as signed ones
then : (s : List ℤ) (at : ℕ) (x y : List ℕ) (n m : ℕ) → length x ≡ n → m ≡ at + n →
    sets s at (map as_signed (x ++ y)) ≡ sets (sets s at (map as_signed x)) m (map as_signed y)
then s at x y n m l e =
    let h = length-map x as_signed in
    ap (sets s at) (map-append as_signed x y) ∙ sym (put_then s at (map as_signed x) (map as_signed y) m (omega arith))

pub kind_put : (s : List ℤ) (at place : ℕ) (e : Element) →
    sets s at (map as_signed (kind_numbers place e))
    ≡ set (sets (sets (sets (sets (sets s at (map as_signed (display_numbers e.display))) (at + 7) (map as_signed (number_numbers e.points)))
    (at + 9) (map as_signed (name_numbers e.name))) (at + 12) (map as_signed (number_numbers e.total))) (at + 14) (map as_signed (number_numbers e.count)))
    (at + 16) (as_signed place)
kind_put s at place e =
    then s at (display_numbers e.display) _ 7 (at + 7) (display_seven e.display) refl
    ∙ then _ (at + 7) (number_numbers e.points) _ 2 (at + 9) (number_two e.points) (omega arith)
    ∙ then _ (at + 9) (name_numbers e.name) _ 3 (at + 12) (name_three e.name) (omega arith)
    ∙ then _ (at + 12) (number_numbers e.total) _ 2 (at + 14) (number_two e.total) (omega arith)
    ∙ then _ (at + 14) (number_numbers e.count) (place ∷ []) 2 (at + 16) (number_two e.count) (omega arith)

-- eight numbers, seven of the range, and seventeen: a view is 32 numbers
common_eight : (e : Element) → length (common_numbers e) ≡ 8
common_eight e = let a = above_two e.above in omega arith

kind_seventeen : (place : ℕ) (e : Element) → length (kind_numbers place e) ≡ 17
kind_seventeen place e =
    let d = display_seven e.display in
    let p = number_two e.points in
    let n = name_three e.name in
    let t = number_two e.total in
    let c = number_two e.count in
    simp length-append (omega arith)

pub thirty_two : (f : ℕ → ℤ) (place : ℕ) (e : Element) → length (view_numbers f place e) ≡ 32
thirty_two f place e =
    let a = length-append (map f (common_numbers e)) (range_numbers e.range ++ map f (kind_numbers place e)) in
    let b = length-append (range_numbers e.range) (map f (kind_numbers place e)) in
    let c = length-map (common_numbers e) f in
    let d = length-map (kind_numbers place e) f in
    let r = range_seven e.range in
    let x = common_eight e in
    let y = kind_seventeen place e in
    omega arith

-- a copy of all of a list
pub pasted : {A : Type 0} (s x : List A) (at n : ℕ) → length x ≡ n → at + n ≤ length s → paste s at x n ≡ sets s at x
pasted s x at n e h = rw (← e, take_all (length x) x (omega arith)) (sym (sets-eq x s at (omega arith)))

-- a turn of the loop that copies numbers as signed ones
pub signed_turn : (s t : List ℤ) (x : List ℕ) (at k : ℕ) → t ≡ paste s at (map as_signed x) k → at + k < length s → k < length x →
    set t (at + k) (as_signed (get_or x k 0)) ≡ paste s at (map as_signed x) (suc k)
signed_turn s t x at k e h l =
    let m = length-map x as_signed in
    rw (e, ← get_or-map as_signed x k 0) (paste-suc s at (map as_signed x) k (as_signed 0) h (omega arith))

-- a number as a signed one fits
pub signed_fits : (n : ℕ) → SFits w64 (as_signed n)
signed_fits n = go (ltb n 9223372036854775808) refl
  where
    go : (b : Bool) → ltb n 9223372036854775808 ≡ b → SFits w64 (pos (cond b n 0))
    go true e = record { sfits = ltb-true n 9223372036854775808 e }
    go false e = record { sfits = omega arith }

-- a slice with no room for a view, and one with room
module _ (s : List ℤ) (at place : ℕ) (e : Element) where
  pub no_room : length s < at + 32 → s ≡ put_view s at place e
  unfolding put_view
  no_room h = simp (lt-leb (at + 32) (length s) h)

  pub room : (t : List ℤ) → at + 32 ≤ length s →
      t ≡ sets (sets (sets s at (map as_signed (common_numbers e))) (at + 8) (range_numbers e.range)) (at + 15) (map as_signed (kind_numbers place e)) →
      t ≡ put_view s at place e
  unfolding put_view
  room t h put =
      let l = length-map (common_numbers e) as_signed in
      let x = common_eight e in
      let r = range_seven e.range in
      let m = length-append (map as_signed (common_numbers e)) (range_numbers e.range) in
      rw (le-leb (at + 32) (length s) h)
      (put ∙ ap (λ u. sets u (at + 15) (map as_signed (kind_numbers place e))) (put_then s at (map as_signed (common_numbers e)) (range_numbers e.range) (at + 8) (omega arith))
      ∙ put_then s at (map as_signed (common_numbers e) ++ range_numbers e.range) (map as_signed (kind_numbers place e)) (at + 15) (omega arith)
      ∙ ap (sets s at) (append_assoc (map as_signed (common_numbers e)) (range_numbers e.range) (map as_signed (kind_numbers place e))))
