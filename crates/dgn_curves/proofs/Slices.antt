-- Curves in two slices, of 9 numbers and 5 floats each: those put behind others stand with them.
use Prim.Native.Nat.{ℕ, ◌+◌, ◌-◌, ◌*◌, ◌/◌, min}
use mathlib.Core.Path.{◌≡◌, refl, sym, ap, ap₂, ◌∙◌}
use mathlib.Core.List.{List, [], ◌∷◌, ◌++◌, append_assoc}
use native.Mathlib.Omega.{arith}
use lib.ListN.{length, length-append}
use lib.Seq.{sets, length-sets}
use Rattle.turns.proofs.Laws.{turn_four}
use Rattle.curve_views.specs.declared.Origin.{Origin}
use Rattle.curve_views.specs.declared.Origin.TheVariants as origins
use Rattle.curve_numbers.specs.Numbers.{origin_floats}
use Rattle.answers.proofs.Besides.{put_then}
use Rattle.order.proofs.Fitting.{Lays}
use Rattle.dgn_curves.specs.Curves.{Entry, entry_numbers, entry_floats, all_numbers, all_floats, Both, both, in_both}

---- how many

origin_three : (o : Origin) → length (origin_floats o) ≡ 3
origin_three (origins.Flat x y) = refl
origin_three (origins.Solid x y z) = refl

pub nine : (e : Entry) → length (entry_numbers e) ≡ 9
nine e = let t = turn_four e.turn in omega arith

pub five : (e : Entry) → length (entry_floats e) ≡ 5
five e = let t = origin_three e.origin in omega arith

pub numbers_long : (es : List Entry) → length (all_numbers es) ≡ 9 * length es
numbers_long [] = refl
numbers_long (e ∷ es) = let n = nine e in let l = length-append (entry_numbers e) (all_numbers es) in let r = numbers_long es in omega arith

pub floats_long : (es : List Entry) → length (all_floats es) ≡ 5 * length es
floats_long [] = refl
floats_long (e ∷ es) = let n = five e in let l = length-append (entry_floats e) (all_floats es) in let r = floats_long es in omega arith

---- one after another

pub numbers_append : (xs ys : List Entry) → all_numbers (xs ++ ys) ≡ all_numbers xs ++ all_numbers ys
numbers_append [] ys = refl
numbers_append (x ∷ xs) ys = ap (λ l. entry_numbers x ++ l) (numbers_append xs ys) ∙ sym (append_assoc (entry_numbers x) (all_numbers xs) (all_numbers ys))

pub floats_append : (xs ys : List Entry) → all_floats (xs ++ ys) ≡ all_floats xs ++ all_floats ys
floats_append [] ys = refl
floats_append (x ∷ xs) ys = ap (λ l. entry_floats x ++ l) (floats_append xs ys) ∙ sym (append_assoc (entry_floats x) (all_floats xs) (all_floats ys))

joined_both : (s : Both) (at : ℕ) (x y : List Entry) (m : ℕ) → m ≡ at + length x → in_both.put (in_both.put s at x) m y ≡ in_both.put s at (x ++ y)
joined_both s at x y m e =
    let n = numbers_long x in
    let f = floats_long x in
    ap₂ both (put_then s.numbers (9 * at) (all_numbers x) (all_numbers y) (9 * m) (omega arith) ∙ ap (sets s.numbers (9 * at)) (sym (numbers_append x y)))
    (put_then s.floats (5 * at) (all_floats x) (all_floats y) (5 * m) (omega arith) ∙ ap (sets s.floats (5 * at)) (sym (floats_append x y)))

pub lays_both : Lays in_both
lays_both = record {
  kept = λ s at x. ap₂ (λ (a b : ℕ). min (a / 9) (b / 5)) (length-sets s.numbers (9 * at) (all_numbers x)) (length-sets s.floats (5 * at) (all_floats x));
  joined = joined_both;
  none = λ s at. refl;
}

---- the slices keep their lengths

pub same_numbers : (s t : Both) (es : List Entry) → t ≡ in_both.put s 0 es → length t.numbers ≡ length s.numbers
same_numbers s t es e = ap (λ (b : Both). length b.numbers) e ∙ length-sets s.numbers (9 * 0) (all_numbers es)

pub same_floats : (s t : Both) (es : List Entry) → t ≡ in_both.put s 0 es → length t.floats ≡ length s.floats
same_floats s t es e = ap (λ (b : Both). length b.floats) e ∙ length-sets s.floats (5 * 0) (all_floats es)
