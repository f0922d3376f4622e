-- Every number of a view is from -2,147,483,648 to 2,147,483,647.
use Prim.Native.Nat.{ℕ, zero, suc}
use mathlib.Core.Path.{◌≡◌}
use mathlib.Core.List.{List, [], ◌∷◌, ◌++◌, map}
use native.Mathlib.Omega.{arith}
use lib.IntN.{pos}
use Rattle.words.specs.Words.{Below}
use Rattle.views.specs.Views.{view_of}
use Rattle.views.specs.declared.Element.{Element}
use Rattle.order.specs.Parts.{Within}
use Rattle.order.proofs.Answers.{within_append, within_pos}
use Rattle.view_numbers.specs.Numbers.{range_numbers, common_numbers, kind_numbers, view_given}
use Rattle.view_numbers.proofs.Small.{Small, view_numbers_small}
use Rattle.std.specs.Prelude.{Ok}

small_below : (xs : List ℕ) → Small xs → Below 2147483648 xs
small_below [] h i = omega arith
small_below (x ∷ xs) h zero = h.each.0
small_below (x ∷ xs) h (suc i) = small_below xs (record { each = h.each.1 }) i

small_within : (xs : List ℕ) → Small xs → Within 2147483648 (map pos xs)
small_within xs h = within_pos 2147483648 xs (small_below xs h)

pub view_within : (dim : ℕ) (s : List ℕ) (at : ℕ) (e : Element) → Below 256 s → view_of dim s at ≡ Ok e → Within 2147483648 (view_given at e)
view_within dim s at e b q =
    let h = view_numbers_small dim s at e b q in
    let kind = map pos (kind_numbers at e) in
    within_append 2147483648 (map pos (common_numbers e)) (range_numbers e.range ++ kind) (small_within (common_numbers e) h.common)
    (within_append 2147483648 (range_numbers e.range) kind h.range (small_within (kind_numbers at e) h.kind))
