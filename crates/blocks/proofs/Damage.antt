-- An end inside a block is a short block; and a block that is part full is bad where anything stands behind it.
use Rattle.std.proofs.Common.{◌≡◌, ℕ, zero, suc, ◌+◌, ◌-◌, ◌*◌, ◌/◌, ◌%◌, ◌<◌, ◌≤◌, Bool, true, false, eqb, ltb, leb, ◌≢◌, List, [], ◌∷◌, ◌++◌, length, take, drop, sym, refl, ap, ◌∙◌, subst, zero-add, arith, length-append, length-drop, length-take, length-take-le, take_all, take-take, drop-drop, ltb-false, ltb-true, eq-eqb, le-leb, leb-true}
use mathlib.Core.Bool.{and-eq-true_iff}
use lib.Seq.{take-nil, take-append-le, drop-append-le}
use Rattle.blocks.specs.Blocks.{used, sound, fewest, most, good, blocks_in, bad_from, first_bad, stored_ok, accepted}
use Rattle.blocks.specs.Promises.{CutInside, BehindPartFull}
use Rattle.blocks.proofs.Block.{and-true, Sound}
use Rattle.blocks.proofs.Turns.{not_sound}
use Rattle.blocks.proofs.Journal.{fewest_is, fewest_le, good_sound, bad_next, in_low, in_high}
use Rattle.blocks.proofs.Answers.{accepted_length, accepted_bad, bad_answer}

---- a good block's bytes where its end or what is behind it differ

is_sound : (least most : ℕ) (b : List ℕ) → Sound least most b → sound least most b ≡ true
unfolding sound
is_sound least most b o =
    and-true (eq-eqb _ _ o.size)
    (and-true (le-leb least (used b) o.low)
    (and-true (le-leb (used b) most o.high)
    (and-true (eq-eqb (used b % 2) 0 o.even)
    (and-true o.zero (eq-eqb _ _ o.check)))))

-- the same block of bytes t of which m are there, where its count allows that
good_beside : (k m : ℕ) (s t : List ℕ) → take 512 t ≡ take 512 s → length t ≡ m → (512 < m → 508 ≤ used (take 512 s)) → good k s ≡ true →
    good k t ≡ true
unfolding good
good_beside k m s t e l f g =
    let o = good_sound k s g in
    let two = (fewest_is (length s) (used (take 512 s)) o.low).0 in
    rw (e, l)
    (is_sound (fewest m) (most k) (take 512 s)
    (record { size = o.size; low = fewest_le m (used (take 512 s)) f two; high = o.high; even = o.even; zero = o.zero; check = o.check }))

pub bad_beside : (k : ℕ) (t : List ℕ) → (Sound (fewest (length t)) (most k) (take 512 t) → ⊥) → good k t ≡ false
unfolding good
bad_beside k t f = sym (not_sound (fewest (length t)) (most k) (take 512 t) f)

-- where more stands behind a good block, it is full
full_before : (k : ℕ) (s : List ℕ) → 512 < length s → good k s ≡ true → 508 ≤ used (take 512 s)
full_before k s h g = let o = good_sound k s g in (fewest_is (length s) (used (take 512 s)) o.low).1 h

good_long : (k : ℕ) (s : List ℕ) → good k s ≡ true → 512 ≤ length s
good_long k s g = let o = good_sound k s g in omega (arith, o.size, length-take 512 s)

---- accepted bytes are whole blocks

whole : (n k : ℕ) (s : List ℕ) → length s ≤ 512 * n → 512 * n < length s + 512 → bad_from n k s ≡ k + n → length s ≡ 512 * n
whole zero k s a b e = omega arith
whole (suc n) k s a b e =
    let g = bad_next n k s e in
    let l = good_long k s g.0 in
    let d = length-drop 512 s in
    let i = whole n (suc k) (drop 512 s) (omega arith) (omega arith) g.1 in
    omega arith

pub accepted_whole : (s : List ℕ) → accepted s ≡ true → length s ≡ 512 * blocks_in (length s)
accepted_whole s e = whole (blocks_in (length s)) 0 s (in_low (length s)) (in_high (length s)) (accepted_bad s e)

---- the first m bytes

in_next : (m : ℕ) → 512 ≤ m → blocks_in m ≡ suc (blocks_in (m - 512))
unfolding blocks_in
in_next m h = omega arith

in_none : (m : ℕ) → m ≡ 0 → blocks_in m ≡ 0
unfolding blocks_in
in_none m h = omega arith

in_one : (m : ℕ) → 0 < m → m < 512 → blocks_in m ≡ 1
unfolding blocks_in
in_one m a b = omega arith

in_inside : (m : ℕ) → m % 512 ≢ 0 → m / 512 < blocks_in m
unfolding blocks_in
in_inside m h = omega (arith, h)

pub drop_take : (a m : ℕ) (s : List ℕ) → a ≤ m → drop a (take m s) ≡ take (m - a) (drop a s)
drop_take zero m s h = let z : m - 0 ≡ m = omega arith in rw z refl
drop_take (suc a) zero s h = absurd (omega (arith, h))
drop_take (suc a) (suc m) [] h = sym (take-nil (suc m - suc a))
drop_take (suc a) (suc m) (x ∷ s) h = let z : suc m - suc a ≡ m - a = omega arith in rw z (drop_take a m s (omega (arith, h)))

short : (k m : ℕ) (s : List ℕ) → length s ≡ m → m < 512 → bad_from (blocks_in m) k s ≡ k
short k zero s l h = rw (in_none zero refl) refl
short k (suc m) s l h =
    let t = length-take 512 s in
    rw (in_one (suc m) (omega arith) h) (rw (bad_beside k s (λ o. omega (arith, o.size, t, l, h))) refl)

cut_bad : (n k m : ℕ) (s : List ℕ) → bad_from n k s ≡ k + n → length s ≡ 512 * n → m ≤ length s → bad_from (blocks_in m) k (take m s) ≡ k + m / 512
cut_bad zero k m s e l h =
    let z : m ≡ 0 = omega (arith, l, h) in
    let q : k ≡ k + m / 512 = omega arith in
    rw (in_none m z) q
cut_bad (suc n) k m s e l h = go (ltb m 512) refl (bad_next n k s e) (λ f. cut_bad n (suc k) (m - 512) (drop 512 s) f)
  where
    lm : length (take m s) ≡ m
    lm = length-take-le m s h

    go : (t : Bool) → ltb m 512 ≡ t → (good k s ≡ true) × (bad_from n (suc k) (drop 512 s) ≡ suc k + n) →
        (bad_from n (suc k) (drop 512 s) ≡ suc k + n → length (drop 512 s) ≡ 512 * n → m - 512 ≤ length (drop 512 s) →
        bad_from (blocks_in (m - 512)) (suc k) (take (m - 512) (drop 512 s)) ≡ suc k + (m - 512) / 512) →
        bad_from (blocks_in m) k (take m s) ≡ k + m / 512
    go true t g ih =
        let x = ltb-true m 512 t in
        let q : k ≡ k + m / 512 = omega arith in
        short k m (take m s) lm x ∙ q
    go false t g ih =
        let x = ltb-false m 512 t in
        let d = length-drop 512 s in
        let same = good_beside k m s (take m s) (take-take 512 m s x) lm (λ z. full_before k s (omega (arith, z, h)) g.0) g.0 in
        let r = ih g.1 (omega (arith, d, l)) (omega (arith, d, h)) in
        let q : suc k + (m - 512) / 512 ≡ k + m / 512 = omega arith in
        rw (in_next m x) (rw (same, drop_take 512 m s x) (r ∙ q))

pub stored_ok_lem : (n : ℕ) → n % 2 ≡ 0 → n ≤ 1057280 → stored_ok n ≡ true
stored_ok_lem n e l = and-true (eq-eqb (n % 2) 0 e) (le-leb n 1057280 l)

length_cut : (n m : ℕ) → stored_ok n ≡ true → m ≤ n → m % 2 ≡ 0 → stored_ok m ≡ true
length_cut n m o h e =
    let p = (and-eq-true_iff (eqb (n % 2) 0) (leb n 1057280)).0 o in
    let l = leb-true n 1057280 p.1 in
    stored_ok_lem m e (omega arith)

pub cut_inside : CutInside
unfolding first_bad
cut_inside s m room e h even ne =
    let l = length-take-le m s h in
    let c = cut_bad (blocks_in (length s)) 0 m s (accepted_bad s e) (accepted_whole s e) h in
    bad_answer (take m s) room (m / 512) (rw l (length_cut (length s) m (accepted_length s e) h even)) (rw l (c ∙ zero-add (m / 512)))
    (rw l (in_inside m ne))

---- bytes behind a last block that is part full

behind : (n k q : ℕ) (s t : List ℕ) → bad_from (suc n) k s ≡ k + suc n → length s ≡ 512 * suc n → used (drop (512 * n) s) < 508 →
    0 < length t → n < q → bad_from q k (s ++ t) ≡ k + n
behind n k zero s t e l u h x = absurd (omega (arith, x))
behind zero k (suc q) s t e l u h x =
    let a = length-append s t in
    let z : take 512 (s ++ t) ≡ s = take-append-le 512 s t (omega arith) ∙ take_all 512 s (omega arith) in
    let bad : good k (s ++ t) ≡ false =
    bad_beside k (s ++ t)
    (λ o. omega (arith, (fewest_is (length (s ++ t)) (used (take 512 (s ++ t))) o.low).1 (omega (arith, a, l, h)), ap used z, u)) in
    rw bad (omega arith)
behind (suc n) k (suc q) s t e l u h x =
    let g = bad_next (suc n) k s e in
    let d = length-drop 512 s in
    let z : take 512 (s ++ t) ≡ take 512 s = take-append-le 512 s t (omega arith) in
    let same = good_beside k (length (s ++ t)) s (s ++ t) z refl (λ y. full_before k s (omega (arith, l)) g.0) g.0 in
    let at : 512 + 512 * n ≡ 512 * suc n = omega arith in
    let last : used (drop (512 * n) (drop 512 s)) < 508 =
    subst (λ (b : List ℕ). used b < 508) (sym (drop-drop (512 * n) 512 s ∙ ap (λ i. drop i s) at)) u in
    let i = behind n (suc k) q (drop 512 s) t g.1 (omega (arith, d, l)) last h (omega (arith, x)) in
    rw (same, drop-append-le 512 s t (omega (arith, l))) (i ∙ omega arith)

in_more : (m n : ℕ) → m ≡ 512 * suc n → (k : ℕ) → 0 < k → n < blocks_in (m + k)
unfolding blocks_in
in_more m n e k h = omega arith

pub behind_part_full : BehindPartFull
unfolding first_bad
behind_part_full s t room e some u h ok =
    let w = accepted_whole s e in
    let n = blocks_in (length s) - 1 in
    let one : blocks_in (length s) ≡ suc n = omega arith in
    let l : length s ≡ 512 * suc n = omega arith in
    let at : length s - 512 ≡ 512 * n = omega arith in
    let place : length s / 512 - 1 ≡ n = omega arith in
    let a = length-append s t in
    let m : n < blocks_in (length (s ++ t)) = rw a (in_more (length s) n l (length t) h) in
    let bad = subst (λ (i : ℕ). bad_from i 0 s ≡ 0 + i) one (accepted_bad s e) in
    let part = subst (λ (i : ℕ). used (drop i s) < 508) at u in
    let b = behind n 0 (blocks_in (length (s ++ t))) s t bad l part h m in
    rw place (bad_answer (s ++ t) room n ok (b ∙ zero-add n) m)
