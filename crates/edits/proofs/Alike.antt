-- One flag written in all elements of an extent: an element of the extent starts at one of the places, where the word then has
-- the flag, and a word at no place is as it was.
use Prim.Native.Nat.{ℕ, ◌≤◌, ◌<◌}
use native.Mathlib.Omega.{arith}
use mathlib.Core.Path.{◌≡◌, refl, sym, ap, ◌∙◌}
use mathlib.Core.Logic.{◌⊎◌, inl, inr}
use mathlib.Core.Bool.{Bool, true, false, ◌&&◌, false≢true, and-eq-true_iff}
use mathlib.Core.List.{List, [], ◌∷◌}
use lib.ListN.{length, set, replicate, length-set}
use lib.Seq.{get_or-set_same, get_or-set_other}
use lib.Dec.{eqb, leb, ltb}
use borrow.Author.Tests.{eqb-true, eqb-false, eq-eqb, leb-true, ltb-true, le-leb, lt-ltb}
use Rattle.words.specs.Words.{word_at}
use Rattle.words.specs.OneOf.{OneOf}
use Rattle.files.specs.Spots.{Spot, first_if, spot_in}
use Rattle.edits.specs.Edits.{keep_if, places_from, flagged, with_flags}
use Rattle.edits.specs.Allowed.{is_some, starts_at}
use Rattle.edits.proofs.Tests.{both_and}
use Rattle.edits.proofs.Flags.{Out, flags_beside}

---- the places of a list of elements, from p on and before `end`

pub place_in : (xs : List Spot) (p end q : ℕ) → starts_at xs q ≡ true → p ≤ q → q < end → OneOf (places_from xs p end) q
place_in [] p end q s a b = absurd (false≢true s)
place_in (x ∷ xs) p end q s a b = go (eqb x.place q) refl (λ t. place_in xs p end q t a b) s
  where
    further : (t : Bool) → OneOf (places_from xs p end) q → OneOf (keep_if t x.place (places_from xs p end)) q
    further true o = inr o
    further false o = o

    go : (t : Bool) → eqb x.place q ≡ t → (starts_at xs q ≡ true → OneOf (places_from xs p end) q) → is_some (first_if t x (spot_in xs q)) ≡ true → OneOf (places_from (x ∷ xs) p end) q
    go true e f s =
        let h = eqb-true x.place q e in
        rw (both_and (le-leb p x.place (omega arith)) (lt-ltb x.place end (omega arith))) (inl (sym h))
    go false e f s = further (leb p x.place && ltb x.place end) (f s)

pub place_out : (xs : List Spot) (p end i : ℕ) → (starts_at xs i ≡ true → p ≤ i → i < end → ⊥) → Out i (places_from xs p end)
place_out [] p end i h = tt
place_out (x ∷ xs) p end i h = go (leb p x.place && ltb x.place end) refl (place_out xs p end i (λ s. h (more (eqb x.place i) s)))
  where
    more : (t : Bool) → is_some (spot_in xs i) ≡ true → is_some (first_if t x (spot_in xs i)) ≡ true
    more true s = refl
    more false s = s

    go : (t : Bool) → (leb p x.place && ltb x.place end) ≡ t → Out i (places_from xs p end) → Out i (keep_if t x.place (places_from xs p end))
    go true e o =
        let b = (and-eq-true_iff (leb p x.place) (ltb x.place end)).0 e in
        let low = leb-true p x.place b.0 in
        let high = ltb-true x.place end b.1 in
        (λ q. h (ap (λ t. is_some (first_if t x (spot_in xs i))) (eq-eqb x.place i (sym q))) (omega arith) (omega arith), o)
    go false e o = o

---- one flag at all places

either : (i : ℕ) (qs : List ℕ) → OneOf qs i ⊎ Out i qs
either i [] = inr tt
either i (q ∷ qs) = go (eqb i q) refl (either i qs)
  where
    go : (t : Bool) → eqb i q ≡ t → OneOf qs i ⊎ Out i qs → OneOf (q ∷ qs) i ⊎ Out i (q ∷ qs)
    go true e o = inl (inl (eqb-true i q e))
    go false e (inl o) = inl (inr o)
    go false e (inr o) = inr (eqb-false i q e, o)

-- a flag written twice
flagged_twice : (d : Bool) (w : ℕ) → flagged d (flagged d w) ≡ flagged d w
flagged_twice true w = omega arith
flagged_twice false w = omega arith

flagged_again : (d : Bool) (q i : ℕ) (ws : List ℕ) → i < length ws → flagged d (word_at (set ws q (flagged d (word_at ws q))) i) ≡ flagged d (word_at ws i)
flagged_again d q i ws h = go (eqb i q) refl
  where
    go : (t : Bool) → eqb i q ≡ t → flagged d (word_at (set ws q (flagged d (word_at ws q))) i) ≡ flagged d (word_at ws i)
    go true e =
        let s = eqb-true i q e in
        rw (s, get_or-set_same ws q (flagged d (word_at ws q)) 0 (omega arith)) (flagged_twice d (word_at ws q))
    go false e = rw (get_or-set_other ws q i (flagged d (word_at ws q)) 0 (eqb-false i q e)) refl

pub alike_there : (qs : List ℕ) (d : Bool) (ws : List ℕ) (i : ℕ) → OneOf qs i → i < length ws → word_at (with_flags qs (replicate (length qs) d) ws) i ≡ flagged d (word_at ws i)
alike_there [] d ws i o h = absurd o
alike_there (q ∷ qs) d ws i o h = go (either i qs) o (λ m. alike_there qs d (set ws q (flagged d (word_at ws q))) i m (let l = length-set ws q (flagged d (word_at ws q)) in omega arith))
  where
    go : OneOf qs i ⊎ Out i qs → OneOf (q ∷ qs) i →
        (OneOf qs i → word_at (with_flags qs (replicate (length qs) d) (set ws q (flagged d (word_at ws q)))) i ≡ flagged d (word_at (set ws q (flagged d (word_at ws q))) i)) →
        word_at (with_flags qs (replicate (length qs) d) (set ws q (flagged d (word_at ws q)))) i ≡ flagged d (word_at ws i)
    go (inl m) o f = f m ∙ flagged_again d q i ws h
    go (inr m) (inr n) f = f n ∙ flagged_again d q i ws h
    go (inr m) (inl e) f =
        (flags_beside qs (replicate (length qs) d) (set ws q (flagged d (word_at ws q)))).same i m
        ∙ rw e (get_or-set_same ws q (flagged d (word_at ws q)) 0 (omega arith))
