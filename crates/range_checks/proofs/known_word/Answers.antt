-- A word that is there is its two bytes, each below 256 (`word_in`).
use Prim.Native.Nat.{ℕ, ◌*◌, ◌+◌, ◌/◌, ◌<◌}
use mathlib.Core.Path.{sym}
use mathlib.Core.List.{List}
use native.Mathlib.Omega.{arith}
use lib.ListN.{length, get_or}
use mir.Syntax.{w8}
use mir.Val.{Fits}
use Rattle.words.proofs.Laws.{lent_below, word_in}
use Rattle.range_checks.proofs.known_word.Goals as goal
use Rattle.range_checks.proofs.known_word.Goals.{Then-known}

-- the two bytes of word i
both : (s : List ℕ) (i : ℕ) → ((k : ℕ) → Fits w8 (get_or s k 0)) → (get_or s (2 * i) 0 < 256) × (get_or s (2 * i + 1) 0 < 256)
both s i b = let l = lent_below s b in (l (2 * i), l (2 * i + 1))

-- where it is known to be there
there : (c : Then-known) → c.args.i < length c.args.s.now / 2
there c = c.requires c.if-known.true

pub overflow_mul-k : goal.overflow_mul-k
overflow_mul-k c = omega (arith, there (goal.at.overflow_mul-k c).Then-known)

pub bounds-s-k : goal.bounds-s-k
bounds-s-k c = omega (arith, there (goal.at.bounds-s-k c).Then-known)

pub overflow_cast-result : goal.overflow_cast-result
overflow_cast-result c = let a = c.args in omega (arith, both a.s.now a.i c.type_inv.s)

pub overflow_add-result : goal.overflow_add-result
overflow_add-result c = omega (arith, there (goal.at.overflow_add-result c).Then-known)

pub bounds-s-k-then-known : goal.bounds-s-k-then-known
bounds-s-k-then-known c = omega (arith, there (goal.at.bounds-s-k-then-known c).Then-known)

pub overflow_cast-result-then-known : goal.overflow_cast-result-then-known
overflow_cast-result-then-known c = let a = c.args in omega (arith, both a.s.now a.i c.type_inv.s)

pub overflow_mul-result : goal.overflow_mul-result
overflow_mul-result c = let a = c.args in omega (arith, both a.s.now a.i c.type_inv.s)

pub overflow_add-result-then-known : goal.overflow_add-result-then-known
overflow_add-result-then-known c = let a = c.args in omega (arith, both a.s.now a.i c.type_inv.s)

pub returns-then-known : goal.returns-then-known
returns-then-known c =
    let a = c.args in
    record {
      is = sym (word_in a.s.now a.i (there (goal.at.returns-then-known c).Then-known));
      small = omega (arith, both a.s.now a.i c.type_inv.s);
    }
