-- The curves by places are those of the list of elements of an accepted file.
use Prim.Native.Nat.{ℕ, ◌-◌}
use mathlib.Core.Path.{◌≡◌, refl, ap}
use mathlib.Core.List.{List}
use lib.IntN.{ℤ}
use lib.Ieee.{Float}
use Rattle.words.specs.Words.{words, word_at}
use Rattle.kinds.specs.FirstWord.{deleted_of}
use Rattle.curve_views.specs.CurveViews.{curve_in}
use Rattle.files.specs.Judge.{judge_of}
use Rattle.order.specs.Order.{place_of}
use Rattle.order.specs.Fitting.{part_of}
use Rattle.order.proofs.Fitting.{Going}
use Rattle.order.proofs.Items.{items_are}
use Rattle.dgn_curves.specs.Curves.{Entry, entry_by, both, in_both, curve_items, curves_part, curves_from}
use Rattle.dgn_curves.proofs.Slices.{lays_both}
use Rattle.std.specs.Prelude.{Result}
use Rattle.curve_views.specs.declared.Curve.{Curve}
use Rattle.files.specs.Accepted.{accepted_with}
use Rattle.refusals.specs.declared.Refusal.{Refusal}

pub curves_are : (dim : ℕ) (s : List ℕ) (e d m : ℕ) → judge_of dim s ≡ accepted_with e d m → (room k : ℕ) →
    part_of room k (curves_from (e - k) dim (words s) k) ≡ curves_part dim (words s) room k
unfolding curves_part
curves_are dim s e d m j room k = ap (part_of room k) (items_are dim s e d m j (curve_items dim (words s)) k)

-- the items of an element by what was read at its place
pub items_here : (dim : ℕ) (ws : List ℕ) (c : Result Curve Refusal) (at place : ℕ) → c ≡ curve_in dim ws at → at ≡ place → entry_by c at (deleted_of (word_at ws at)) ≡ curve_items dim ws place
unfolding curve_items
items_here dim ws c at place e q = rw (e, q) refl

-- the curves of element number i
abbrev pub items_of : ℕ → List ℕ → ℕ → List Entry
items_of dim file i = curve_items dim (words file) (place_of (words file) i)

-- what was put so far
abbrev pub So-far : List ℕ → ℕ → ℕ → ℕ → List ℤ → List Float → List ℤ → List Float → ℕ → ℕ → Type 0
So-far file dim elements k numbers₀ floats₀ numbers floats i used =
    Going in_both lays_both (part_of (in_both.room (both numbers₀ floats₀)) k (curves_from (elements - k) dim (words file) k)) (both numbers₀ floats₀) (items_of dim file) elements i used (both numbers floats)
