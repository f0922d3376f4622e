-- A word is its two bytes, each below 256.
use Prim.Native.Nat.{ℕ, ◌*◌, ◌+◌, ◌<◌}
use mathlib.Core.Path.{sym}
use mathlib.Core.List.{List}
use native.Mathlib.Omega.{arith}
use lib.ListN.{get_or}
use mir.Syntax.{w8}
use mir.Val.{Fits}
use Rattle.words.proofs.Laws.{lent_below, word_in}
use Rattle.curve_views.proofs.word_in.Goals as goal

-- the two bytes of word i
both : (s : List ℕ) (i : ℕ) → ((k : ℕ) → Fits w8 (get_or s k 0)) → (get_or s (2 * i) 0 < 256) × (get_or s (2 * i + 1) 0 < 256)
both s i b = let l = lent_below s b in (l (2 * i), l (2 * i + 1))

pub overflow_cast-result : goal.overflow_cast-result
overflow_cast-result c = let a = c.args in omega (arith, both a.file.now a.i c.type_inv.file)

pub overflow_cast-result-2 : goal.overflow_cast-result-2
overflow_cast-result-2 c = let a = c.args in omega (arith, both a.file.now a.i c.type_inv.file)

pub overflow_mul-result : goal.overflow_mul-result
overflow_mul-result c = let a = c.args in omega (arith, both a.file.now a.i c.type_inv.file)

pub overflow_add-result-2 : goal.overflow_add-result-2
overflow_add-result-2 c = let a = c.args in omega (arith, both a.file.now a.i c.type_inv.file)

pub returns : goal.returns
returns c = sym (word_in c.args.file.now c.args.i c.requires)
