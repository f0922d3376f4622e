-- The parts of a text's numbers put one behind another.
use Prim.Native.Nat.{ℕ, ◌+◌, ◌<◌, ◌≤◌}
use mathlib.Core.Path.{◌≡◌, refl, sym, ap, ◌∙◌}
use mathlib.Core.List.{List, ◌++◌}
use native.Mathlib.Omega.{arith}
use lib.IntN.{ℤ}
use lib.ListN.{length, length-append}
use lib.Seq.{sets, sets-eq, take_all}
use borrow.Rule.Slice.PartMut.{put_mid}
use borrow.Author.Tests.{le-leb, lt-leb}
use Rattle.std.proofs.lemmas.Slice.{put_mid-paste}
use Rattle.turns.specs.Turns.{turn_numbers}
use Rattle.turns.proofs.Laws.{turn_four}
use Rattle.text_views.specs.declared.Origin.{Origin}
use Rattle.text_views.specs.declared.Origin.TheVariants as origins
use Rattle.text_views.specs.declared.Text.{Text}
use Rattle.answers.proofs.Besides.{put_then}
use Rattle.text_numbers.specs.Numbers.{origin_numbers, first_numbers, last_numbers, text_numbers, put_text}

-- a part of a slice that holds the numbers
pub part_put : {A : Type 0} (s x y : List A) (at k : ℕ) → y ≡ x → k ≡ length x → at + k ≤ length s → put_mid at k s y ≡ sets s at x
part_put s x y at k e l h = put_mid-paste at k s y x k e refl l ∙ rw (l, take_all (length x) x (omega arith)) (sym (sets-eq x s at (omega arith)))

-- how many numbers each part has, and all of them
pub origin_three : (x : Origin) → length (origin_numbers x) ≡ 3
origin_three (origins.Flat x y) = refl
origin_three (origins.Solid x y z) = refl

module _ (start : ℕ) (t : Text) where
  pub fifteen : length (text_numbers start t) ≡ 15
  fifteen =
      let a = length-append (turn_numbers t.turn) (origin_numbers t.origin ++ last_numbers start t) in
      let b = length-append (origin_numbers t.origin) (last_numbers start t) in
      let c = turn_four t.turn in
      let d = origin_three t.origin in
      omega arith

  module _ (out : List ℤ) (at : ℕ) where
    pub no_room : length out < at + 15 → out ≡ put_text out at start t
    unfolding put_text
    no_room h = rw (lt-leb (at + 15) (length out) h) refl

    pub all_put : at + 15 ≤ length out → (a b c d : List ℤ) → a ≡ sets out at (first_numbers t) → b ≡ sets a (at + 4) (turn_numbers t.turn) →
        c ≡ sets b (at + 8) (origin_numbers t.origin) → d ≡ sets c (at + 11) (last_numbers start t) → d ≡ put_text out at start t
    unfolding put_text
    all_put h a b c d ea eb ec ed =
        let turn = turn_numbers t.turn in
        let origin = origin_numbers t.origin in
        let last = last_numbers start t in
        let m = turn_four t.turn in
        let n = origin_three t.origin in
        rw (le-leb (at + 15) (length out) h)
        (ed ∙ ap (λ u. sets u (at + 11) last) ec ∙ put_then b (at + 8) origin last (at + 11) (omega arith)
        ∙ ap (λ u. sets u (at + 8) (origin ++ last)) eb ∙ put_then a (at + 4) turn (origin ++ last) (at + 8) (omega arith)
        ∙ ap (λ u. sets u (at + 4) (turn ++ (origin ++ last))) ea
        ∙ put_then out at (first_numbers t) (turn ++ (origin ++ last)) (at + 4) (omega arith))
