-- A slice beside the one for the answer, by whether that has room; numbers put behind others, and numbers at the front read back.
use Prim.Native.Nat.{ℕ, suc, ◌+◌, ◌<◌, ◌≤◌}
use mathlib.Core.Path.{◌≡◌, refl, sym, ap, ◌∙◌}
use mathlib.Core.List.{List, [], ◌∷◌, ◌++◌}
use native.Mathlib.Omega.{arith}
use native.Mathlib.Nat.{add-zero}
use lib.ListN.{length, get_or, take, drop, set, get_or-append}
use lib.Seq.{take_at, take-suc, length-take-le, sets, sets-eq}
use borrow.Author.Tests.{le-leb, lt-leb}
use Rattle.answers.specs.Answers.{Reply, with_room}
use Rattle.answers.specs.Besides.{if_done, besides}

module _ {A S : Type 0} (needed : ℕ) where
  pub done_beside : (q r : Reply A) (s : List A) (made was : S) → q ≡ r → needed ≤ length s → if_done (with_room needed q s) made was ≡ if_done r made was
  done_beside q r s made was e h = simp (le-leb needed (length s) h, e)

  pub short_beside : (q : Reply A) (s : List A) (made was : S) → length s < needed → if_done (with_room needed q s) made was ≡ was
  short_beside q s made was h = simp (lt-leb needed (length s) h)

module _ {A B : Type 0} (needed : ℕ) where
  pub besides_done : (q r : Reply A) (s : List A) (more t : List B) → q ≡ r → needed ≤ length s → besides (with_room needed q s) more t ≡ besides r more t
  besides_done q r s more t e h = done_beside needed q r s (sets t 0 more) t e h

  pub besides_short : (q : Reply A) (s : List A) (more t : List B) → length s < needed → besides (with_room needed q s) more t ≡ t
  besides_short q s more t h = short_beside needed q s (sets t 0 more) t h

pub put_then : {A : Type 0} (s : List A) (at : ℕ) (x y : List A) (m : ℕ) → m ≡ at + length x → sets (sets s at x) m y ≡ sets s at (x ++ y)
put_then s at [] y m e = ap (λ i. sets s i y) (e ∙ add-zero at)
put_then s at (a ∷ x) y m e = put_then (set s at a) (suc at) x y m (omega arith)

-- numbers at the front of a slice are read there
pub front_read : {A : Type 0} (vs s : List A) → length vs ≤ length s → take (length vs) (sets s 0 vs) ≡ vs
front_read vs s h = ap (take (length vs)) (sets-eq vs s 0 (omega arith)) ∙ take_at vs (drop (0 + length vs) s) (length vs) refl

pub front_at : {A : Type 0} (vs s : List A) (i : ℕ) (z : A) → i < length vs → length vs ≤ length s → get_or (sets s 0 vs) i z ≡ get_or vs i z
front_at vs s i z h l = ap (λ t. get_or t i z) (sets-eq vs s 0 (omega arith)) ∙ get_or-append vs (drop (0 + length vs) s) z i h

-- a turn of the loop that puts the numbers of x, one by one
pub put_turn : {A : Type 0} (s t x : List A) (at k : ℕ) (d : A) → t ≡ sets s at (take k x) → k < length x → set t (at + k) (get_or x k d) ≡ sets s at (take (suc k) x)
put_turn s t x at k d e h =
    let l = length-take-le k x (omega arith) in
    ap (λ u. set u (at + k) (get_or x k d)) e
    ∙ put_then s at (take k x) (get_or x k d ∷ []) (at + k) (omega arith)
    ∙ ap (sets s at) (sym (take-suc x k d h))
