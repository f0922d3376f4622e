-- Each turn of a copy writes the next byte of what it copies, and a part of a buffer that holds x is x over the buffer; where x does not fit the
-- buffer is as it was.
use Prim.Native.Nat.{ℕ, suc, ◌+◌, ◌≤◌, ◌<◌}
use mathlib.Core.Path.{◌≡◌, refl}
use mathlib.Core.List.{List}
use mathlib.Core.Bool.{Bool, true, false, cond}
use native.Mathlib.Omega.{arith}
use lib.ListN.{length, take, set, get_or}
use lib.Seq.{take-suc, length-take-le, drop-drop}
use lib.Dec.{leb}
use borrow.Rule.Slice.PartMut.{put_mid}
use borrow.Author.Tests.{le-leb, leb-true}
use Rattle.words.specs.Words.{over}
use Rattle.words.proofs.Over.{over_snoc}
use Rattle.copies.specs.Copies.{copied}

pub copy_turn : (d s x : List ℕ) (at k : ℕ) → s ≡ over d at (take k x) → k < length x → at + length x ≤ length d
    → set s (at + k) (get_or x k 0) ≡ over d at (take (suc k) x)
copy_turn d s x at k e h l =
    let t = length-take-le k x (omega arith) in
    rw (e, over_snoc d at (take k x) (at + k) (get_or x k 0) (omega arith) (omega arith), take-suc x k 0 h) refl

pub part_over : (a k : ℕ) (s x y : List ℕ) → y ≡ x → k ≡ length x → put_mid a k s y ≡ over s a x
unfolding over
part_over a k s x y e l = rw (e, l, ← drop-drop (length x) a s) refl

pub copied_fits : (s : List ℕ) (a : ℕ) (x : List ℕ) → a + length x ≤ length s → copied s a x ≡ over s a x
unfolding copied
copied_fits s a x h = rw (le-leb (a + length x) (length s) h) refl

pub copied_not : (s : List ℕ) (a : ℕ) (x : List ℕ) → (a + length x ≤ length s → ⊥) → s ≡ copied s a x
unfolding copied
copied_not s a x miss = go (leb (a + length x) (length s)) refl
  where
    go : (b : Bool) → leb (a + length x) (length s) ≡ b → s ≡ cond b (over s a x) s
    go true e = absurd (miss (leb-true (a + length x) (length s) e))
    go false e = refl
