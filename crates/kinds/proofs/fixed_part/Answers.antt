-- Each arm is a case of the definition, and the last has none of the numbers.
use mathlib.Core.List.{[], ◌∷◌}
use mathlib.Core.Path.{◌≡◌, refl}
use native.Mathlib.Omega.{arith}
use borrow.Author.Tests.{ne_eqb}
use Rattle.kinds.specs.Kinds.{fixed_part}
use Rattle.kinds.proofs.Types.{in_arm}
use Rattle.kinds.proofs.fixed_part.Goals as goal

pub pick-requires : goal.pick-requires
pick-requires c = tt

pub pick-requires-in-3 : goal.pick-requires-in-3
pick-requires-in-3 c = tt

pub overflow_mul-n : goal.overflow_mul-n
overflow_mul-n c = omega arith

pub overflow_add-n : goal.overflow_add-n
overflow_add-n c = omega arith

pub overflow_mul-n-in-4 : goal.overflow_mul-n-in-4
overflow_mul-n-in-4 c = omega arith

pub overflow_add-n-in-4 : goal.overflow_add-n-in-4
overflow_add-n-in-4 c = omega arith

pub pick-requires-in-4 : goal.pick-requires-in-4
pick-requires-in-4 c = tt

pub pick-requires-in-7 : goal.pick-requires-in-7
pick-requires-in-7 c = tt

pub pick-requires-in-15 : goal.pick-requires-in-15
pick-requires-in-15 c = tt

pub pick-requires-in-16 : goal.pick-requires-in-16
pick-requires-in-16 c = tt

pub text_part-requires : goal.text_part-requires
text_part-requires c = tt

pub returns-in-1 : goal.returns-in-1
unfolding fixed_part
returns-in-1 c = rw c.in-1.is

pub returns-in-2 : goal.returns-in-2
unfolding fixed_part
returns-in-2 c = rw c.in-2.is c.pick.ensures

pub returns-in-3 : goal.returns-in-3
unfolding fixed_part
returns-in-3 c = rw c.in-3.is c.pick-in-3.ensures

pub returns-in-4 : goal.returns-in-4
unfolding fixed_part
returns-in-4 c =
    let e = c.pick-in-4.ensures in
    let a = c.args in
    in_arm (λ t. c.pick-in-4.result ≡ fixed_part a.dim t a.n) (4 ∷ 6 ∷ 11 ∷ 21 ∷ []) _ (e, (e, (e, (e, tt)))) c.in-4.is

pub returns-in-7 : goal.returns-in-7
unfolding fixed_part
returns-in-7 c = rw c.in-7.is c.pick-in-7.ensures

pub returns-in-12 : goal.returns-in-12
unfolding fixed_part
returns-in-12 c = let a = c.args in in_arm (λ t. 20 ≡ fixed_part a.dim t a.n) (12 ∷ 14 ∷ []) _ (refl, (refl, tt)) c.in-12.is

pub returns-in-15 : goal.returns-in-15
unfolding fixed_part
returns-in-15 c = rw c.in-15.is c.pick-in-15.ensures

pub returns-in-16 : goal.returns-in-16
unfolding fixed_part
returns-in-16 c = rw c.in-16.is c.pick-in-16.ensures

pub returns-in-17 : goal.returns-in-17
unfolding fixed_part
returns-in-17 c = rw c.in-17.is c.text_part.ensures

pub returns-in-18 : goal.returns-in-18
unfolding fixed_part
returns-in-18 c = rw c.in-18.is

pub returns-in-19 : goal.returns-in-19
unfolding fixed_part
returns-in-19 c = rw c.in-19.is

pub returns-in_default : goal.returns-in_default
unfolding fixed_part
returns-in_default c =
    let t = c.args.t in
    simp (
      ne_eqb t 1 (omega arith),
      ne_eqb t 2 (omega arith),
      ne_eqb t 3 (omega arith),
      ne_eqb t 4 (grind arith),
      ne_eqb t 6 (grind arith),
      ne_eqb t 11 (grind arith),
      ne_eqb t 21 (grind arith),
      ne_eqb t 7 (omega arith),
      ne_eqb t 12 (grind arith),
      ne_eqb t 14 (grind arith),
      ne_eqb t 15 (omega arith),
      ne_eqb t 16 (omega arith),
      ne_eqb t 17 (omega arith),
      ne_eqb t 18 (omega arith),
      ne_eqb t 19 (omega arith),
    )
