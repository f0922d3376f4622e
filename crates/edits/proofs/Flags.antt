-- Deleted flags written at places: no other bit changes, and the old flags written there give the old words back, whatever
-- was written between.
use Prim.Native.Nat.{ℕ, zero, suc, ◌/◌, ◌%◌, ◌≤◌, ◌<◌}
use native.Mathlib.Omega.{arith}
use native.Mathlib.Decide.{dec_le, ℕ_discrete}
use mathlib.Core.Path.{◌≡◌, refl, sym, ap, ◌∙◌}
use mathlib.Core.Logic.{◌≢◌}
use mathlib.Core.Bool.{Bool, true, false}
use mathlib.Core.List.{List, [], ◌∷◌, ◌++◌}
use lib.ListN.{length, take, drop, set, length-set, get_or-eq_default}
use lib.Seq.{get_or-set_same, get_or-set_other, set_out, ext_get_or}
use lib.Dec.{eqb, ltb}
use borrow.Author.Tests.{eqb-true, eqb-false, ltb-true, ltb-false}
use Rattle.words.specs.Words.{Below, word_at}
use Rattle.kinds.specs.FirstWord.{deleted_of, type_of}
use Rattle.headers.specs.Header.{type_at}
use Rattle.edits.specs.Edits.{flagged, flags_at, with_flags}
use Rattle.edits.proofs.Parts.{below_set}
use Rattle.edits.proofs.Fields.{flagged_small, type_flagged}

---- lists of places and flags

pub with_none : (qs ws : List ℕ) → with_flags qs [] ws ≡ ws
with_none [] ws = refl
with_none (q ∷ qs) ws = refl

pub with_append : (qs rs : List ℕ) (bs : List Bool) (ws : List ℕ) → with_flags (qs ++ rs) bs ws ≡ with_flags rs (drop (length qs) bs) (with_flags qs bs ws)
with_append [] rs bs ws = refl
with_append (q ∷ qs) rs [] ws = sym (with_none rs ws)
with_append (q ∷ qs) rs (b ∷ bs) ws = with_append qs rs bs (set ws q (flagged b (word_at ws q)))

-- flags past the places do not matter
pub with_taken : (qs : List ℕ) (bs : List Bool) (ws : List ℕ) → with_flags qs bs ws ≡ with_flags qs (take (length qs) bs) ws
with_taken [] bs ws = refl
with_taken (q ∷ qs) [] ws = refl
with_taken (q ∷ qs) (b ∷ bs) ws = with_taken qs bs (set ws q (flagged b (word_at ws q)))

pub length_flags : (qs ws : List ℕ) → length (flags_at qs ws) ≡ length qs
length_flags [] ws = refl
length_flags (q ∷ qs) ws = ap suc (length_flags qs ws)

pub flags_taken : (n : ℕ) (qs ws : List ℕ) → flags_at (take n qs) ws ≡ take n (flags_at qs ws)
flags_taken zero qs ws = refl
flags_taken (suc n) [] ws = refl
flags_taken (suc n) (q ∷ qs) ws = ap (λ l. eqb (deleted_of (word_at ws q)) 1 ∷ l) (flags_taken n qs ws)

pub flags_dropped : (n : ℕ) (qs ws : List ℕ) → flags_at (drop n qs) ws ≡ drop n (flags_at qs ws)
flags_dropped zero qs ws = refl
flags_dropped (suc n) [] ws = refl
flags_dropped (suc n) (q ∷ qs) ws = flags_dropped n qs ws

pub length_with : (qs : List ℕ) (bs : List Bool) (ws : List ℕ) → length (with_flags qs bs ws) ≡ length ws
length_with [] bs ws = refl
length_with (q ∷ qs) [] ws = refl
length_with (q ∷ qs) (b ∷ bs) ws = length_with qs bs (set ws q (flagged b (word_at ws q))) ∙ length-set ws q _

pub below_flags : (qs : List ℕ) (bs : List Bool) (ws : List ℕ) → Below 65536 ws → Below 65536 (with_flags qs bs ws)
below_flags [] bs ws b = b
below_flags (q ∷ qs) [] ws b = b
below_flags (q ∷ qs) (f ∷ bs) ws b = below_flags qs bs (set ws q (flagged f (word_at ws q))) (below_set ws q _ b (flagged_small f (word_at ws q)))

---- types

type_set : (b : Bool) (ws : List ℕ) (q i : ℕ) → type_at (set ws q (flagged b (word_at ws q))) i ≡ type_at ws i
type_set b ws q i = go (ℕ_discrete i q) (dec_le (length ws) q)
  where
    go : Dec (i ≡ q) → Dec (length ws ≤ q) → type_at (set ws q (flagged b (word_at ws q))) i ≡ type_at ws i
    go (no n) d = ap type_of (get_or-set_other ws q i (flagged b (word_at ws q)) 0 n)
    go (yes e) (yes l) = ap (λ u. type_at u i) (set_out ws q (flagged b (word_at ws q)) l)
    go (yes e) (no l) = rw e (ap type_of (get_or-set_same ws q (flagged b (word_at ws q)) 0 (omega arith)) ∙ type_flagged b (word_at ws q))

-- flags change no type
pub type_flags : (qs : List ℕ) (bs : List Bool) (ws : List ℕ) (i : ℕ) → type_at (with_flags qs bs ws) i ≡ type_at ws i
type_flags [] bs ws i = refl
type_flags (q ∷ qs) [] ws i = refl
type_flags (q ∷ qs) (b ∷ bs) ws i = type_flags qs bs (set ws q (flagged b (word_at ws q))) i ∙ type_set b ws q i

---- one word

low_flagged : (b : Bool) (w : ℕ) → flagged b w % 32768 ≡ w % 32768
low_flagged true w = omega arith
low_flagged false w = omega arith

flag_back : (v w : ℕ) → w < 65536 → v % 32768 ≡ w % 32768 → flagged (eqb (deleted_of w) 1) v ≡ w
flag_back v w h l = go (eqb (deleted_of w) 1) refl
  where
    go : (b : Bool) → eqb (deleted_of w) 1 ≡ b → flagged b v ≡ w
    go true e = let d = eqb-true (w / 32768 % 2) 1 e in omega arith
    go false e = let d = eqb-false (w / 32768 % 2) 1 e in omega arith

set_low : (v : List ℕ) (q : ℕ) (b : Bool) (i : ℕ) → word_at (set v q (flagged b (word_at v q))) i % 32768 ≡ word_at v i % 32768
set_low v q b i = go (eqb i q) (ltb q (length v)) refl refl
  where
    go : (s t : Bool) → eqb i q ≡ s → ltb q (length v) ≡ t → word_at (set v q (flagged b (word_at v q))) i % 32768 ≡ word_at v i % 32768
    go true true e f =
        rw (eqb-true i q e, get_or-set_same v q (flagged b (word_at v q)) 0 (ltb-true q (length v) f)) (low_flagged b (word_at v q))
    go true false e f = rw (set_out v q (flagged b (word_at v q)) (ltb-false q (length v) f)) refl
    go false t e f = rw (get_or-set_other v q i (flagged b (word_at v q)) 0 (eqb-false i q e)) refl

---- words that differ in the flags at places

-- not one of the places
abbrev pub Out : ℕ → List ℕ → Type 0
Out i [] = Unit {0}
Out i (q ∷ qs) = (i ≢ q) × Out i qs

-- the lower fifteen bits of every word are the same, and all of a word elsewhere
pub record Beside (qs v ws : List ℕ) : Type 0 where
  pub long : length v ≡ length ws
  pub low : (i : ℕ) → word_at v i % 32768 ≡ word_at ws i % 32768
  pub same : (i : ℕ) → Out i qs → word_at v i ≡ word_at ws i

pub flags_beside : (qs : List ℕ) (bs : List Bool) (ws : List ℕ) → Beside qs (with_flags qs bs ws) ws
flags_beside [] bs ws = record { long = refl; low = λ i. refl; same = λ i o. refl }
flags_beside (q ∷ qs) [] ws = record { long = refl; low = λ i. refl; same = λ i o. refl }
flags_beside (q ∷ qs) (b ∷ bs) ws =
    let x = flags_beside qs bs (set ws q (flagged b (word_at ws q))) in
    record {
      long = x.long ∙ length-set ws q _;
      low = λ i. x.low i ∙ set_low ws q b i;
      same = λ i o. x.same i o.1 ∙ get_or-set_other ws q i _ 0 o.0;
    }

one_back : (q : ℕ) (qs v ws : List ℕ) → Below 65536 ws → Beside (q ∷ qs) v ws → Beside qs (set v q (flagged (eqb (deleted_of (word_at ws q)) 1) (word_at v q))) ws
one_back q qs v ws b x =
    let f = flagged (eqb (deleted_of (word_at ws q)) 1) (word_at v q) in
    record {
      long = length-set v q f ∙ x.long;
      low = λ i. set_low v q (eqb (deleted_of (word_at ws q)) 1) i ∙ x.low i;
      same = λ i o. go i o (eqb i q) (ltb q (length v)) refl refl;
    }
  where
    go : (i : ℕ) → Out i qs → (s t : Bool) → eqb i q ≡ s → ltb q (length v) ≡ t → word_at (set v q (flagged (eqb (deleted_of (word_at ws q)) 1) (word_at v q))) i ≡ word_at ws i
    go i o true true e f =
        rw (eqb-true i q e) (get_or-set_same v q _ 0 (ltb-true q (length v) f) ∙ flag_back (word_at v q) (word_at ws q) (b q) (x.low q))
    go i o true false e f =
        let l = ltb-false q (length v) f in
        let n = x.long in
        rw (eqb-true i q e) (ap (λ u. word_at u q) (set_out v q _ l) ∙ get_or-eq_default v 0 l ∙ sym (get_or-eq_default ws 0 (omega arith)))
    go i o false t e f = get_or-set_other v q i _ 0 (eqb-false i q e) ∙ x.same i (eqb-false i q e, o)

old_back : (qs v ws : List ℕ) → Below 65536 ws → Beside qs v ws → with_flags qs (flags_at qs ws) v ≡ ws
old_back [] v ws b x = ext_get_or 0 v ws x.long (λ i h. x.same i tt)
old_back (q ∷ qs) v ws b x = old_back qs _ ws b (one_back q qs v ws b x)

-- the old flags written back
pub flags_back : (qs : List ℕ) (bs : List Bool) (ws : List ℕ) → Below 65536 ws → with_flags qs (flags_at qs ws) (with_flags qs bs ws) ≡ ws
flags_back qs bs ws b = old_back qs (with_flags qs bs ws) ws b (flags_beside qs bs ws)
