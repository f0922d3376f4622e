-- The numbers that are counted in passing are the counts of the kinds of the live elements; and one turn of the counting.
use Prim.Native.Nat.{ℕ, zero, suc, ◌+◌, ◌≤◌, ◌<◌}
use mathlib.Core.Path.{◌≡◌, refl, sym, ap, ◌∙◌}
use mathlib.Core.Bool.{Bool, true, false}
use mathlib.Core.List.{List, [], ◌∷◌}
use native.Mathlib.Omega.{arith}
use lib.ListN.{length, get_or, set, replicate}
use lib.Seq.{get_or-set_same, get_or-set_other}
use lib.Dec.{eqb}
use borrow.Author.Tests.{eqb-true, eqb-false, ne_eqb}
use Rattle.words.specs.Words.{word_at}
use Rattle.kinds.specs.FirstWord.{type_of, deleted_of, bit}
use Rattle.headers.specs.Header.{extent_words}
use Rattle.promises.specs.Components.{place_if}
use Rattle.plates.specs.Kinds.{is_kind}
use Rattle.plates.specs.Plates.{live_among, count_of}
use Rattle.plates.specs.Hops.{kind_of, slot_of, hops, slot_count}
use Rattle.plates.proofs.OneKind.{kind_small, kind_is, type_small}
use Rattle.plates.proofs.Hops.{hop_more}

slot_live : (w : ℕ) → deleted_of w ≡ 0 → slot_of w ≡ kind_of (type_of w)
unfolding slot_of
slot_live w e = rw e refl

slot_dead : (w : ℕ) → deleted_of w ≡ 1 → slot_of w ≡ 6
unfolding slot_of
slot_dead w e = rw e refl

-- a flag is clear or set
flag_set : (w : ℕ) → (deleted_of w ≡ 0 → ⊥) → deleted_of w ≡ 1
flag_set w h = go (deleted_of w) refl (omega arith)
  where
    go : (d : ℕ) → deleted_of w ≡ d → d < 2 → deleted_of w ≡ 1
    go zero e l = absurd (h e)
    go (suc zero) e l = e
    go (suc (suc d)) e l = absurd (omega arith)

pub slot_small : (w : ℕ) → slot_of w < 7
slot_small w = go (eqb (deleted_of w) 0) refl
  where
    go : (b : Bool) → eqb (deleted_of w) 0 ≡ b → slot_of w < 7
    go true e = let s = slot_live w (eqb-true (deleted_of w) 0 e) in let k = kind_small (type_of w) (type_small w) in omega arith
    go false e = let s = slot_dead w (flag_set w (eqb-false (deleted_of w) 0 e)) in omega arith

module _ (ws : List ℕ) (k : ℕ) (six : k < 6) where
  pub slots_are : (qs : List ℕ) → slot_count k ws qs ≡ count_of (is_kind k) ws (live_among ws qs)
  slots_are [] = refl
  slots_are (q ∷ qs) = go (eqb (deleted_of (word_at ws q)) 0) refl (slots_are qs)
    where
      go : (b : Bool) → eqb (deleted_of (word_at ws q)) 0 ≡ b → slot_count k ws qs ≡ count_of (is_kind k) ws (live_among ws qs) →
          slot_count k ws (q ∷ qs) ≡ count_of (is_kind k) ws (place_if b q (live_among ws qs))
      go true e r =
          let s = slot_live (word_at ws q) (eqb-true (deleted_of (word_at ws q)) 0 e) in
          rw (s, ← kind_is (type_of (word_at ws q)) k (type_small (word_at ws q)), r) refl
      go false e r =
          let s = slot_dead (word_at ws q) (flag_set (word_at ws q) (eqb-false (deleted_of (word_at ws q)) 0 e)) in
          rw (s, ne_eqb 6 k (λ z. omega arith)) (omega arith)

---- one turn

-- nothing is counted at first
pub none_counted : (n k : ℕ) → get_or {A = ℕ} (replicate n 0) k 0 ≡ 0
none_counted zero k = refl
none_counted (suc n) zero = refl
none_counted (suc n) (suc k) = none_counted n k

module _ (ws : List ℕ) (here end slot v x : ℕ) (counts : List ℕ) (long : length counts ≡ 7) (inside : here < end) (is : slot ≡ slot_of (word_at ws here))
    (one : v ≡ get_or counts slot 0 + 1) (extent : x ≡ extent_words ws here) where
  fits : slot < length counts
  fits = let s = slot_small (word_at ws here) in omega arith

  by_slot : (k : ℕ) (b : Bool) → eqb slot k ≡ b → get_or (set counts slot v) k 0 ≡ bit b + get_or counts k 0
  by_slot k true e =
      let z = eqb-true slot k e in
      ap (λ j. get_or (set counts slot v) j 0) (sym z) ∙ get_or-set_same counts slot v 0 fits ∙ one ∙ ap (λ j. get_or counts j 0 + 1) z ∙ omega arith
  by_slot k false e = let o = get_or-set_other counts slot k v 0 (λ z. eqb-false slot k e (sym z)) in omega arith

  pub slot_more : (k : ℕ) → get_or (set counts slot v) k 0 ≡ bit (eqb slot k) + get_or counts k 0
  slot_more k = by_slot k (eqb slot k) refl

  -- what is counted and what is left
  pub turn : (k all : ℕ) → get_or counts k 0 + slot_count k ws (hops ws here end) ≡ all → get_or (set counts slot v) k 0 + slot_count k ws (hops ws (here + x) end) ≡ all
  turn k all h =
      let a = slot_more k in
      let b : slot_count k ws (hops ws here end) ≡ bit (eqb slot k) + slot_count k ws (hops ws (here + x) end) = ap (slot_count k ws) (hop_more ws end here inside) ∙ rw (is, extent) refl in
      omega arith

  -- no count is above the place
  pub turn_few : ((k : ℕ) → get_or counts k 0 ≤ here) → 2 ≤ x → (k : ℕ) → get_or (set counts slot v) k 0 ≤ here + x
  turn_few h t k = let a = slot_more k in let b = h k in go (eqb slot k) a
    where
      go : (b : Bool) → get_or (set counts slot v) k 0 ≡ bit b + get_or counts k 0 → get_or (set counts slot v) k 0 ≤ here + x
      go true a = omega (arith, h k)
      go false a = omega (arith, h k)
