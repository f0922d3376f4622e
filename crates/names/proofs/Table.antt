-- A table that passes its test has the codes of a word's last two letters at the place that is left after the first letter.
use Prim.Native.Nat.{ℕ, zero, suc, ◌+◌, ◌*◌, ◌-◌, ◌/◌, ◌%◌, ◌<◌}
use mathlib.Core.Path.{◌≡◌, sym, ap, ◌∙◌}
use mathlib.Core.Bool.{true, and-eq-true_iff}
use mathlib.Core.List.{List, [], ◌∷◌}
use native.Mathlib.Omega.{arith}
use native.Mathlib.Nat.{add-zero, zero-add, add-suc, suc-add, le_of_suc-le-suc}
use lib.Dec.{eqb}
use lib.ListN.{length, get_or}
use borrow.Author.Tests.{eqb-true}
use Rattle.names.specs.Names.{letters_of}
use Rattle.names.specs.Pairs.{pair_at, pairs_from, is_table}
use Rattle.names.proofs.Stored.{letters_left}

-- each entry is that of its place
from : (k : ℕ) (table : List ℕ) → pairs_from k table ≡ true → (i : ℕ) → i < length table → get_or table i 0 ≡ pair_at (k + i)
from k [] ok i h = absurd (omega arith)
from k (x ∷ rest) ok zero h =
    eqb-true _ _ ((and-eq-true_iff (eqb x (pair_at k)) (pairs_from (suc k) rest)).0 ok).0 ∙ ap pair_at (sym (add-zero k))
from k (x ∷ rest) ok (suc i) h =
    from (suc k) rest ((and-eq-true_iff (eqb x (pair_at k)) (pairs_from (suc k) rest)).0 ok).1 i (le_of_suc-le-suc h) ∙
    ap pair_at (suc-add k i ∙ sym (add-suc k i))

-- the codes of a word: the first letter's, and the two of the entry at what is left after it
pub by_entry : (table : List ℕ) → is_table table ≡ true → (w x e : ℕ) → x ≡ w / 1600 →
    e ≡ get_or table (w - x * 1600) 0 → record { a = x; b = e / 256; c = e % 256 } ≡ letters_of w
by_entry table ok w x e first read =
    let both = (and-eq-true_iff (eqb (length table) 1600) (pairs_from 0 table)).0 ok in
    let size = eqb-true (length table) 1600 both.0 in
    let k = w - x * 1600 in
    let at_k : e ≡ pair_at k = read ∙ from 0 table both.1 k (omega (arith, size, first)) ∙ ap pair_at (zero-add k) in
    letters_left w x (e / 256) (e % 256) first (omega (arith, at_k)) (omega (arith, at_k))
