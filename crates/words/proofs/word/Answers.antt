-- A word that is there is its two bytes, each below 256 (`word_in`); where none is there the answer is 0 (`word_out`).
use Prim.Native.Nat.{ℕ, ◌*◌, ◌+◌, ◌<◌}
use mathlib.Core.Path.{sym}
use mathlib.Core.List.{List}
use native.Mathlib.Omega.{arith}
use lib.ListN.{get_or}
use mir.Syntax.{w8}
use mir.Val.{Fits}
use Rattle.words.proofs.Laws.{lent_below, word_in, word_out}
use Rattle.words.proofs.word.Goals as goal

-- the two bytes of word i
both : (s : List ℕ) (i : ℕ) → ((k : ℕ) → Fits w8 (get_or s k 0)) → (get_or s (2 * i) 0 < 256) × (get_or s (2 * i + 1) 0 < 256)
both s i b = let l = lent_below s b in (l (2 * i), l (2 * i + 1))

pub overflow_cast-result : goal.overflow_cast-result
overflow_cast-result c = let a = c.args in omega (arith, both a.s.now a.i c.type_inv.s)

pub overflow_cast-result-then-i-s : goal.overflow_cast-result-then-i-s
overflow_cast-result-then-i-s c =
    let a = c.args in omega (arith, both a.s.now a.i c.type_inv.s)

pub overflow_mul-result : goal.overflow_mul-result
overflow_mul-result c =
    let a = c.args in omega (arith, both a.s.now a.i c.type_inv.s)

pub overflow_add-result-then-i-s : goal.overflow_add-result-then-i-s
overflow_add-result-then-i-s c =
    let a = c.args in omega (arith, both a.s.now a.i c.type_inv.s)

pub returns-then-i-s : goal.returns-then-i-s
returns-then-i-s c =
    let a = c.args in
    record {
      is = sym (word_in a.s.now a.i c.if-i-s.true);
      small = omega (arith, both a.s.now a.i c.type_inv.s);
    }

pub returns-else-i-s : goal.returns-else-i-s
returns-else-i-s c = record { is = sym (word_out c.args.s.now _ c.if-i-s.false); small = omega arith }
