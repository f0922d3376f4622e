-- Each way to read a curve, with what leads there.
use Prim.Native.Nat.{ℕ, ◌+◌, ◌≤◌, ◌<◌}
use mathlib.Core.Path.{◌≡◌, sym}
use mathlib.Core.Logic.{◌≢◌}
use mathlib.Core.Bool.{Bool, true, false, cond}
use mathlib.Core.List.{List}
use native.Mathlib.Omega.{arith}
use lib.ListN.{length}
use lib.Dec.{eqb}
use borrow.Author.Tests.{ne_eqb, le-leb, lt-leb}
use Rattle.std.specs.Prelude.{Ok}
use Rattle.words.specs.Words.{long_at}
use Rattle.curves.specs.Curves.{axes_word, origin_word, floats_ok}
use Rattle.curves.proofs.Laws.{origin_early}
use Rattle.turns.specs.Turns.{turn_at}
use Rattle.kinds.specs.Kinds.{is_curve, fixed_part}
use Rattle.headers.specs.Header.{type_at}
use Rattle.elements.proofs.Laws.{curve_end}
use Rattle.refusals.specs.Refusals.{refused_with}
use Rattle.curve_views.specs.declared.Curve.TheVariants.{Ellipse, Arc}
use Rattle.curve_views.specs.CurveViews.{float_at, origin_at, curve_at}

-- the words of a curve end with its origin: the axes and one word of the turn lie before it
pub record Inside (dim at t n : ℕ) : Type 0 where
  pub axes : at + axes_word t + 10 ≤ n
  pub origin : at + origin_word dim t + cond (eqb dim 2) 8 12 ≤ n

pub curve_room : (dim at t n : ℕ) → is_curve t ≡ true → at + fixed_part dim t 0 ≤ n → Inside dim at t n
curve_room dim at t n k l = let e = curve_end dim t 0 k in record { axes = go (eqb dim 2) (omega arith); origin = omega arith }
  where
    go : (b : Bool) → at + (axes_word t + 8 + cond b 2 8 + cond b 8 12) ≤ n → at + axes_word t + 10 ≤ n
    go true h = omega arith
    go false h = omega arith

-- and are few
pub curve_few : (dim t : ℕ) → is_curve t ≡ true → fixed_part dim t 0 ≤ 50
curve_few dim t k = let e = curve_end dim t 0 k in let f = origin_early dim t in go (eqb dim 2) (omega arith)
  where
    go : (b : Bool) → fixed_part dim t 0 ≤ 38 + cond b 8 12 → fixed_part dim t 0 ≤ 50
    go true h = omega arith
    go false h = omega arith

module _ (dim : ℕ) (ws : List ℕ) (at t : ℕ) (q : t ≡ type_at ws at) where
  pub curve_cut : length ws < at + fixed_part dim t 0 → curve_at dim ws at ≡ refused_with 3 at
  unfolding curve_at
  curve_cut l = rw (sym q, lt-leb (at + fixed_part dim t 0) (length ws) l)

  pub curve_reserved : at + fixed_part dim t 0 ≤ length ws → floats_ok dim t ws at ≡ false → curve_at dim ws at ≡ refused_with 21 at
  unfolding curve_at
  curve_reserved l f = rw (sym q, le-leb (at + fixed_part dim t 0) (length ws) l, f)

  module _ (l : at + fixed_part dim t 0 ≤ length ws) (f : floats_ok dim t ws at ≡ true) where
    pub curve_ellipse : t ≡ 15 → curve_at dim ws at
        ≡ Ok (Ellipse (float_at ws (at + axes_word t)) (float_at ws (at + axes_word t + 4)) (turn_at dim ws (at + axes_word t + 8)) (origin_at dim ws (at + origin_word dim t)))
    unfolding curve_at
    curve_ellipse e = let z : at + 18 + 8 ≡ at + 26 = omega arith in rw (sym q, le-leb (at + fixed_part dim t 0) (length ws) l, f, e, z)

    pub curve_arc : t ≢ 15 → curve_at dim ws at
        ≡ Ok (Arc (long_at ws (at + 18)) (long_at ws (at + 20)) (float_at ws (at + axes_word t)) (float_at ws (at + axes_word t + 4)) (turn_at dim ws (at + axes_word t + 8))
        (origin_at dim ws (at + origin_word dim t)))
    unfolding curve_at
    curve_arc n = let z : at + 22 + 8 ≡ at + 30 = omega arith in rw (sym q, le-leb (at + fixed_part dim t 0) (length ws) l, f, ne_eqb t 15 n, z)
