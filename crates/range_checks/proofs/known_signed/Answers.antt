-- The long turned over, less 2147483648 (`lowered_is`), is its signed number (`turned`).
use Prim.Native.Nat.{ℕ, ◌+◌, ◌*◌, ◌%◌}
use mathlib.Core.Path.{◌≡◌, ap, ◌∙◌}
use native.Mathlib.Omega.{arith}
use Rattle.words.specs.Words.{words, long_at, signed}
use Rattle.ranges.proofs.Ranges.{turned, lowered_fits, lowered_is}
use Rattle.range_checks.proofs.known_signed.Goals as goal

-- the long turned over
abbrev number : ℕ → ℕ → ℕ
number high low = (65536 * high + low + 2147483648) % 4294967296

pub known_word-requires : goal.known_word-requires
known_word-requires c = λ k. omega (arith, c.requires.1 k)

pub known_word-requires-2 : goal.known_word-requires-2
known_word-requires-2 c = λ k. omega (arith, c.requires.1 k)

pub overflow_sub-result : goal.overflow_sub-result
overflow_sub-result c = lowered_fits (number c.known_word.result c.known_word-2.result) (omega arith)

pub returns : goal.returns
returns c =
    let a = c.args in
    let is : 65536 * c.known_word.result + c.known_word-2.result ≡ long_at (words a.s.now) a.i = omega (arith, c.known_word.ensures.is, c.known_word-2.ensures.is) in
    lowered_is (number c.known_word.result c.known_word-2.result) (omega arith) ∙ turned (65536 * c.known_word.result + c.known_word-2.result) (omega (arith, c.known_word.ensures.small, c.known_word-2.ensures.small)) ∙ ap signed is
