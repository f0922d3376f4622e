-- A slice that is too short stays, any other takes the answer at its front or, of a refusal, stays; and a refusal's number
-- can be taken apart again.
use Prim.Native.Nat.{ℕ, ◌/◌, ◌%◌, ◌<◌, ◌≤◌}
use mathlib.Core.Path.{◌≡◌, refl}
use mathlib.Core.Logic.{◌≢◌}
use mathlib.Core.Bool.{Bool, true, false, cond}
use mathlib.Core.List.{List}
use native.Mathlib.Omega.{arith}
use lib.ListN.{length}
use lib.Dec.{leb}
use borrow.Author.Tests.{le-leb, lt-leb}
use Rattle.answers.specs.Answers.{Reply, done, refuse, refusal_number, returned, slice_left, with_room, Replied, Small, SmallReply, ReadAs}
use Rattle.answers.specs.Besides.{if_done}

module _ {A : Type 0} (needed : ℕ) where
  pub too_short : (q : Reply A) (s : List A) → length s < needed → Replied needed q s 1 s
  too_short q s h = record { is = simp (lt-leb needed (length s) h); out = simp (lt-leb needed (length s) h) }

  pub answered : (q r : Reply A) (s : List A) → q ≡ r → needed ≤ length s → Replied needed q s (returned r) (slice_left r s)
  answered q r s e h = rw e (record { is = simp (le-leb needed (length s) h); out = simp (le-leb needed (length s) h) })

-- where another number than 0 is returned the slice is as it was
pub refusal_leaves : {A : Type 0} (needed : ℕ) (q : Reply A) (s t : List A) (n : ℕ) → Replied needed q s n t → n ≢ 0 → t ≡ s
refusal_leaves {A = A} needed q s t n r h = go (with_room needed q s) refl
  where
    go : (w : Reply A) → with_room needed q s ≡ w → t ≡ s
    go (done given) e = absurd (h (rw e at r.is))
    go (refuse number detail) e = rw e at r.out

-- and so is what is lent beside it
pub refusal_leaves_beside : {A S : Type 0} (needed : ℕ) (q : Reply A) (s t : List A) (n : ℕ) (made was : S) → Replied needed q s n t → n ≢ 0 →
    if_done (with_room needed q s) made was ≡ was
refusal_leaves_beside {A = A} needed q s t n made was r h = go (with_room needed q s) refl
  where
    go : (w : Reply A) → with_room needed q s ≡ w → if_done w made was ≡ was
    go (done given) e = absurd (h (rw e at r.is))
    go (refuse number detail) e = refl

-- number and detail of a refusal, from the number that is returned; it is no 0 and fits 32 bits
pub taken_apart : (number detail : ℕ) → Small number detail →
    (refusal_number number detail % 256 ≡ number) × (refusal_number number detail / 256 ≡ detail) × (0 < refusal_number number detail) × (refusal_number number detail < 4294967296)
taken_apart number detail h = (omega arith, omega arith, omega arith, omega arith)

-- so a caller reads each answer as it is meant
pub read_as : {A : Type 0} (needed : ℕ) (q : Reply A) (s t : List A) (n : ℕ) → SmallReply q → Replied needed q s n t → ReadAs (with_room needed q s) s n t
read_as {A = A} needed q s t n small r = go (with_room needed q s) (room (leb needed (length s))) r.is r.out
  where
    room : (b : Bool) → SmallReply (cond b q (refuse 1 0))
    room true = small
    room false = (omega arith, omega arith, omega arith)

    go : (w : Reply A) → SmallReply w → n ≡ returned w → t ≡ slice_left w s → ReadAs w s n t
    go (done given) h e o = (e, o)
    go (refuse number detail) h e o =
        let p = taken_apart number detail h in
        (λ z. omega arith, omega arith, omega arith, omega arith, o)
