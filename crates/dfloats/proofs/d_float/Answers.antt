-- Each way out is a law of `Readings`; the bits are those of `Patterns`.
use Prim.Native.Nat.{◌≤◌, ◌<◌, ◌^◌}
use mathlib.Core.Path.{◌≡◌, sym, ap, ◌∙◌}
use native.Mathlib.Omega.{arith}
use lib.Ieee.{binary64, of_bits}
use Rattle.dfloats.specs.FirstWord.{negative, exponent}
use Rattle.dfloats.specs.Fields.{digits, eighth}
use Rattle.dfloats.proofs.Rounding.{digits_from, digits_below, eighth_from, eighth_to}
use Rattle.dfloats.proofs.Patterns.{pattern_is, pattern_number}
use Rattle.dfloats.proofs.Readings.{reads_zero, reads_nearest, sum_is}
use Rattle.dfloats.proofs.d_float.Goals as goal
use Rattle.dfloats.proofs.d_float.Goals.{After-digits_of, After-eighth_of-q}

-- m and q are as large as they must be
m_below : (c : After-digits_of) → c.digits_of.result < 2 ^ 56
m_below c =
    let w = c.args in
    rw c.digits_of.ensures (digits_below w.a w.b w.c w.d (omega arith) (omega arith) (omega arith))

q_from : (c : After-eighth_of-q) → 2 ^ 52 ≤ c.eighth_of-q.result
q_from c =
    let w = c.args in
    rw (c.eighth_of-q.ensures, c.digits_of.ensures) (eighth_from _ (digits_from w.a w.b w.c w.d))

q_to : (c : After-eighth_of-q) → c.eighth_of-q.result ≤ 2 ^ 53
q_to c =
    let w = c.args in
    rw (c.eighth_of-q.ensures, c.digits_of.ensures) (eighth_to _ (digits_below w.a w.b w.c w.d (omega arith) (omega arith) (omega arith)))

pub returns-then-exponent-eq0 : goal.returns-then-exponent-eq0
unfolding of_bits
returns-then-exponent-eq0 c = let w = c.args in sym (reads_zero w.a w.b w.c w.d c.if-exponent-eq0.true)

pub eighth_of-q-requires : goal.eighth_of-q-requires
eighth_of-q-requires c = m_below (goal.at.eighth_of-q-requires c).After-digits_of

pub overflow_add-result-3 : goal.overflow_add-result-3
overflow_add-result-3 c = omega (arith, q_to (goal.at.overflow_add-result-3 c).After-eighth_of-q)

pub float_from_bits-result : goal.float_from_bits-result
float_from_bits-result c =
    let a = c.args.a in
    rw (sum_is a c.eighth_of-q.result (omega arith), pattern_number (negative a) (exponent a) c.eighth_of-q.result (omega arith) (q_to (goal.at.float_from_bits-result c).After-eighth_of-q)) tt

pub returns : goal.returns
returns c =
    let w = c.args in
    let q = c.eighth_of-q.result in
    let is : q ≡ eighth (digits w.a w.b w.c w.d) = c.eighth_of-q.ensures ∙ ap eighth c.digits_of.ensures in
    ap (of_bits binary64) (sum_is w.a q (omega arith))
    ∙ pattern_is (negative w.a) (exponent w.a) q (omega arith) (q_from (goal.at.returns c).After-eighth_of-q) (q_to (goal.at.returns c).After-eighth_of-q)
    ∙ rw is (sym (reads_nearest w.a w.b w.c w.d c.if-exponent-eq0.false))
