-- What clearing leaves: zeros over the buffer's bytes, and the buffer as it was where the bytes do not stand in it.
use Prim.Native.Nat.{ℕ, ◌+◌, ◌-◌, ◌≤◌, ◌<◌}
use mathlib.Core.Path.{◌≡◌, refl, sym, ◌∙◌}
use mathlib.Core.List.{List, [], ◌++◌, append-nil}
use mathlib.Core.Bool.{Bool, true, false, cond}
use native.Mathlib.Omega.{arith}
use lib.ListN.{length, take, replicate, length-replicate, drop_of_length-le}
use lib.Dec.{leb}
use Rattle.words.specs.Words.{over}
use Rattle.words.proofs.Over.{over_nil}
use Rattle.copies.specs.Copies.{copied, cleared}
use Rattle.copies.proofs.Copies.{copied_fits, copied_not}

-- what is left where both stand in the buffer, and where they do not
pub cleared_in : (s : List ℕ) (a e : ℕ) → a ≤ e → e ≤ length s → cleared s a e ≡ over s a (replicate (e - a) 0)
unfolding cleared
cleared_in s a e h l = let r = length-replicate {A = ℕ} (e - a) 0 in copied_fits s a (replicate (e - a) 0) (omega arith)

pub cleared_past : (s : List ℕ) (a e : ℕ) → length s < e → s ≡ cleared s a e
unfolding cleared
cleared_past s a e l = let r = length-replicate {A = ℕ} (e - a) 0 in copied_not s a (replicate (e - a) 0) (λ h. omega arith)

pub cleared_back : (s : List ℕ) (a e : ℕ) → e ≤ a → s ≡ cleared s a e
unfolding cleared copied
cleared_back s a e l = let z : e - a ≡ 0 = omega arith in rw z (go (leb (a + 0) (length s)))
  where
    go : (b : Bool) → s ≡ cond b (over s a []) s
    go true = sym (over_nil s a)
    go false = refl

-- all from a place on
pub cleared_rest : (s : List ℕ) (a : ℕ) → a ≤ length s → cleared s a (length s) ≡ take a s ++ replicate (length s - a) 0
unfolding over
cleared_rest s a h =
    let r = length-replicate {A = ℕ} (length s - a) 0 in
    let e : a + length (replicate {A = ℕ} (length s - a) 0) ≡ length s = omega arith in
    cleared_in s a (length s) h (omega arith)
    ∙ rw (e, drop_of_length-le s {i = length s} (omega arith), append-nil {A = ℕ} (replicate (length s - a) 0)) refl
