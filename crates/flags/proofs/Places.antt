-- The places of an extent in parts: the first n of them, and those behind, which the flags put at the first ones do not move.
use Prim.Native.Nat.{ℕ, zero, suc, ◌+◌, ◌-◌, ◌≤◌, ◌<◌}
use mathlib.Core.Path.{◌≡◌, refl, sym, ap, ◌∙◌}
use mathlib.Core.Bool.{Bool, true, false, cond}
use mathlib.Core.List.{List, [], ◌∷◌, ◌++◌}
use native.Mathlib.Omega.{arith}
use lib.ListN.{length, take, drop, replicate}
use lib.Dec.{ltb}
use borrow.Author.Tests.{ltb-true, ltb-false, lt-ltb, le-ltb, le-leb}
use Rattle.words.specs.Words.{words, word_at}
use Rattle.headers.specs.Header.{size_at}
use Rattle.edits.specs.Edits.{flags_at}
use Rattle.flags.specs.Extents.{places_by, behind_by, places_in, flag_put, flags_put}
use Rattle.flags.proofs.Stores.{SameFrom, same_behind, places_same, flags_same}

---- by any bound that is enough

pub places_enough : (j k : ℕ) (ws : List ℕ) (at end : ℕ) → end - at < j → end - at < k → places_by j ws at end ≡ places_by k ws at end
unfolding places_by
places_enough zero k ws at end a b = absurd (omega arith)
places_enough (suc j) zero ws at end a b = absurd (omega arith)
places_enough (suc j) (suc k) ws at end a b = go (places_enough j k ws (at + size_at ws at) end) (ltb at end) refl
  where
    go : (end - (at + size_at ws at) < j → end - (at + size_at ws at) < k → places_by j ws (at + size_at ws at) end ≡ places_by k ws (at + size_at ws at) end) → (t : Bool) → ltb at end ≡ t →
        cond t (at ∷ places_by j ws (at + size_at ws at) end) [] ≡ cond t (at ∷ places_by k ws (at + size_at ws at) end) []
    go f true e = let l = ltb-true at end e in ap (λ v. at ∷ v) (f (omega arith) (omega arith))
    go f false e = refl

pub places_none : (n : ℕ) (ws : List ℕ) (at end : ℕ) → end ≤ at → places_by n ws at end ≡ []
unfolding places_by
places_none zero ws at end h = refl
places_none (suc n) ws at end h = rw (le-ltb at end h) refl

---- the first n, and those behind

by_taken : (n k : ℕ) (ws : List ℕ) (at end : ℕ) → n ≤ k → take n (places_by k ws at end) ≡ places_by n ws at end
unfolding places_by
by_taken zero k ws at end h = refl
by_taken (suc n) zero ws at end h = absurd (omega arith)
by_taken (suc n) (suc k) ws at end h = go (by_taken n k ws (at + size_at ws at) end (omega arith)) (ltb at end)
  where
    go : take n (places_by k ws (at + size_at ws at) end) ≡ places_by n ws (at + size_at ws at) end → (t : Bool) →
        take (suc n) (cond t (at ∷ places_by k ws (at + size_at ws at) end) []) ≡ cond t (at ∷ places_by n ws (at + size_at ws at) end) []
    go e true = ap (λ v. at ∷ v) e
    go e false = refl

by_dropped : (n k m : ℕ) (ws : List ℕ) (at end : ℕ) → k ≡ n + m → drop n (places_by k ws at end) ≡ places_by m ws (behind_by n ws at end) end
unfolding places_by behind_by
by_dropped zero k m ws at end h = let e : k ≡ m = omega arith in rw e refl
by_dropped (suc n) zero m ws at end h = absurd (omega arith)
by_dropped (suc n) (suc k) m ws at end h = go (by_dropped n k m ws (at + size_at ws at) end (omega arith)) (ltb at end) refl
  where
    go : drop n (places_by k ws (at + size_at ws at) end) ≡ places_by m ws (behind_by n ws (at + size_at ws at) end) end → (t : Bool) → ltb at end ≡ t →
        drop (suc n) (cond t (at ∷ places_by k ws (at + size_at ws at) end) []) ≡ places_by m ws (cond t (behind_by n ws (at + size_at ws at) end) at) end
    go e true q = e
    go e false q = sym (places_none m ws at end (ltb-false at end q))

pub behind_least : (n : ℕ) (ws : List ℕ) (at end : ℕ) → at ≤ behind_by n ws at end
unfolding behind_by
behind_least zero ws at end = omega arith
behind_least (suc n) ws at end = go (behind_least n ws (at + size_at ws at) end) (ltb at end)
  where
    go : at + size_at ws at ≤ behind_by n ws (at + size_at ws at) end → (t : Bool) → at ≤ cond t (behind_by n ws (at + size_at ws at) end) at
    go h true = omega arith
    go h false = omega arith

pub behind_more : (n : ℕ) (ws : List ℕ) (at end : ℕ) → at < end → at < behind_by (suc n) ws at end
unfolding behind_by
behind_more n ws at end h = let l = behind_least n ws (at + size_at ws at) end in rw (lt-ltb at end h) (omega arith)

module _ (ws : List ℕ) (at end : ℕ) (room : end ≤ length ws) where
  pub places_by_lem : (k : ℕ) → end - at < k → places_in ws at end ≡ places_by k ws at end
  unfolding places_in
  places_by_lem k h = rw (le-leb end (length ws) room) (places_enough (suc (end - at)) k ws at end (omega arith) h)

  pub places_taken : (n : ℕ) → take n (places_in ws at end) ≡ places_by n ws at end
  places_taken n = ap (take n) (places_by_lem (n + suc (end - at)) (omega arith)) ∙ by_taken n (n + suc (end - at)) ws at end (omega arith)

  pub places_dropped : (n : ℕ) → drop n (places_in ws at end) ≡ places_in ws (behind_by n ws at end) end
  unfolding places_in
  places_dropped n =
      let l = behind_least n ws at end in
      ap (drop n) (places_by_lem (n + suc (end - at)) (omega arith))
      ∙ by_dropped n (n + suc (end - at)) (suc (end - at)) ws at end refl
      ∙ rw (le-leb end (length ws) room) (places_enough (suc (end - at)) (suc (end - behind_by n ws at end)) ws (behind_by n ws at end) end (omega arith) (omega arith))

---- flags put in parts

pub put_none : (qs s : List ℕ) → flags_put qs [] s ≡ s
put_none [] s = refl
put_none (q ∷ qs) s = refl

-- the flags of two lists
pub put_parts : (bs cs : List Bool) (qs s : List ℕ) → flags_put qs (bs ++ cs) s ≡ flags_put (drop (length bs) qs) cs (flags_put (take (length bs) qs) bs s)
put_parts [] cs qs s = refl
put_parts (b ∷ bs) cs [] s = refl
put_parts (b ∷ bs) cs (q ∷ qs) s = put_parts bs cs qs (flag_put b q s)

-- and of one flag for all
pub put_alike : (n : ℕ) (d : Bool) (qs s : List ℕ) →
    flags_put qs (replicate (length qs) d) s ≡ flags_put (drop n qs) (replicate (length (drop n qs)) d) (flags_put (take n qs) (replicate n d) s)
put_alike zero d qs s = refl
put_alike (suc n) d [] s = refl
put_alike (suc n) d (q ∷ qs) s = put_alike n d qs (flag_put d q s)

-- they change no word behind them
pub same_put : (n : ℕ) (ws : List ℕ) (at end : ℕ) (bs : List Bool) (s : List ℕ) → SameFrom (behind_by n ws at end) (words (flags_put (places_by n ws at end) bs s)) (words s)
unfolding places_by behind_by
same_put zero ws at end bs s j l = refl
same_put (suc n) ws at end bs s j l = go (λ cs. same_put n ws (at + size_at ws at) end cs) (ltb at end) bs l
  where
    go : ((cs : List Bool) (t : List ℕ) → SameFrom (behind_by n ws (at + size_at ws at) end) (words (flags_put (places_by n ws (at + size_at ws at) end) cs t)) (words t)) → (t : Bool) (cs : List Bool) →
        cond t (behind_by n ws (at + size_at ws at) end) at ≤ j → word_at (words (flags_put (cond t (at ∷ places_by n ws (at + size_at ws at) end) []) cs s)) j ≡ word_at (words s) j
    go f true [] h = refl
    go f true (c ∷ cs) h =
        let m = behind_least n ws (at + size_at ws at) end in
        f cs (flag_put c at s) j h ∙ same_behind c at (behind_by n ws (at + size_at ws at) end) s (omega arith) j h
    go f false cs h = refl

---- places and flags from a place on, in words that are the same there

module _ (at end : ℕ) (ws vs : List ℕ) (long : length ws ≡ length vs) (same : SameFrom at ws vs) where
  pub in_same : places_in ws at end ≡ places_in vs at end
  unfolding places_in
  in_same = rw (long, places_same (suc (end - at)) at end ws vs same) refl

  pub in_flags_same : end ≤ length vs → flags_at (places_in ws at end) ws ≡ flags_at (places_in vs at end) vs
  in_flags_same h =
      ap (λ qs. flags_at qs ws) (places_by_lem ws at end (omega arith) (suc (end - at)) (omega arith))
      ∙ flags_same (suc (end - at)) at end ws vs same
      ∙ ap (λ qs. flags_at qs vs) (sym (places_by_lem vs at end h (suc (end - at)) (omega arith)))
