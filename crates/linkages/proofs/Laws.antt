-- Laws of the words of one linkage, and of a fill and a walk one linkage at a time, for every fuel that is enough.
use Prim.Native.Nat.{ℕ, zero, suc, ◌+◌, ◌-◌, ◌/◌, ◌%◌, ◌≤◌, ◌<◌}
use mathlib.Core.Path.{◌≡◌, refl, sym, ap, ◌∙◌}
use mathlib.Core.Logic.{◌⊎◌, inl, inr}
use mathlib.Core.Bool.{Bool, true, false, cond, ◌||◌, and-eq-true_iff}
use mathlib.Core.List.{List}
use native.Mathlib.Omega.{arith}
use native.Mathlib.Numerals.{sub-one}
use lib.Dec.{eqb, leb}
use borrow.Author.Tests.{eq-eqb, ne_eqb, le-leb, leb-true, eqb-true, eqb-false}
use Rattle.words.specs.Words.{word_at}
use Rattle.linkages.specs.Linkages.{is_user, linkage_words, linkage_fits, fitting_words, fill_from, linkage_at, linkage_from}
use Rattle.std.specs.Prelude.{None, Option}
use Rattle.linkages.specs.declared.Linkage.{Linkage}

-- two numbers are equal, or not: for a proof by cases
abbrev pub Equal : ℕ → ℕ → Type 0
Equal a b = (a ≡ b) ⊎ (a ≡ b → ⊥)

pub equal : (a b : ℕ) → Equal a b
equal a b = go (eqb a b) refl
  where
    go : (t : Bool) → eqb a b ≡ t → Equal a b
    go true e = inl (eqb-true a b e)
    go false e = inr (eqb-false a b e)

---- the words of a linkage by its first word

pub words_user : (w : ℕ) → w / 4096 % 2 ≡ 1 → (w % 256 ≡ 0 → ⊥) → linkage_words w ≡ 1 + w % 256
unfolding linkage_words
words_user w u h = rw (eq-eqb _ _ u, ne_eqb _ _ h)

pub words_bare : (w : ℕ) → w / 4096 % 2 ≡ 1 → w % 256 ≡ 0 → linkage_words w ≡ 0
unfolding linkage_words
words_bare w u h = rw (eq-eqb _ _ u, eq-eqb _ _ h)

pub words_other : (w : ℕ) → (w ≡ 0) ⊎ (w ≡ 32768) → linkage_words w ≡ 4
unfolding linkage_words
words_other w (inl e) = rw e refl
words_other w (inr e) = rw e refl

pub words_none : (w : ℕ) → (w / 4096 % 2 ≡ 1 → ⊥) → (w ≡ 0 → ⊥) → (w ≡ 32768 → ⊥) → linkage_words w ≡ 0
unfolding linkage_words
words_none w u a b = rw (ne_eqb _ _ u, ne_eqb _ _ a, ne_eqb _ _ b)

-- by what both kinds would have
pub words_picked : (w : ℕ) {user last other : ℕ} → user ≡ cond (eqb (w % 256) 0) 0 (1 + w % 256) → last ≡ cond (eqb w 32768) 4 0 → other ≡ cond (eqb w 0) 4 last →
    cond (eqb (w / 4096 % 2) 1) user other ≡ linkage_words w
unfolding linkage_words
words_picked w e f g = rw (e, g, f) (ap (λ m. cond (eqb (w / 4096 % 2) 1) (cond (eqb (w % 256) 0) 0 (1 + w % 256)) m) (go (eqb w 0)))
  where
    go : (b : Bool) → ◌≡◌ {A = ℕ} (cond b 4 (cond (eqb w 32768) 4 0)) (cond (b || eqb w 32768) 4 0)
    go true = refl
    go false = refl

-- a user linkage has a second word
pub words_two : (w : ℕ) → is_user w ≡ true → 1 ≤ linkage_words w → 2 ≤ linkage_words w
words_two w u h = go (equal (w % 256) 0)
  where
    go : Equal (w % 256) 0 → 2 ≤ linkage_words w
    go (inl e) = absurd (omega (arith, words_bare w (eqb-true _ _ u) e))
    go (inr d) = omega (arith, words_user w (eqb-true _ _ u) d)

---- a linkage that starts at a place and ends by another

module _ (ws : List ℕ) (at end : ℕ) where
  -- a linkage fits, and r is the number of its words
  pub record Fits (r : ℕ) : Type 0 where
    pub does : linkage_fits ws at end ≡ true
    pub is : r ≡ linkage_words (word_at ws at)
    pub some : 1 ≤ r
    pub within : r ≤ end - at

  pub fits : linkage_fits ws at end ≡ true → Fits (linkage_words (word_at ws at))
  fits e =
      let b = (and-eq-true_iff (leb 1 (linkage_words (word_at ws at))) (leb (linkage_words (word_at ws at)) (end - at))).0 e in
      record { does = e; is = refl; some = leb-true _ _ b.0; within = leb-true _ _ b.1 }

  pub fits_by : (m : ℕ) → linkage_words (word_at ws at) ≡ m → 1 ≤ m → m ≤ end - at → Fits m
  fits_by m e a b = record { does = rw (e, le-leb _ _ a, le-leb _ _ b) refl; is = sym e; some = a; within = b }

  pub fits_not : (Fits (linkage_words (word_at ws at)) → ⊥) → linkage_fits ws at end ≡ false
  fits_not d = go (linkage_fits ws at end) refl
    where
      go : (t : Bool) → linkage_fits ws at end ≡ t → linkage_fits ws at end ≡ false
      go true h = absurd (d (fits h))
      go false h = h

  pub fitting_not : (Fits (linkage_words (word_at ws at)) → ⊥) → 0 ≡ fitting_words ws at end
  unfolding fitting_words
  fitting_not d = rw (fits_not d) refl

  pub fitting_is : linkage_words (word_at ws at) ≤ end - at → linkage_words (word_at ws at) ≡ fitting_words ws at end
  unfolding fitting_words
  fitting_is h = go (equal (linkage_words (word_at ws at)) 0)
    where
      go : Equal (linkage_words (word_at ws at)) 0 → linkage_words (word_at ws at) ≡ fitting_words ws at end
      go (inl e) = e ∙ fitting_not (λ f. omega (arith, f.some))
      go (inr d) = rw (fits_by _ refl (omega arith) h).does refl

  pub fitting_none : (r : ℕ) → r ≡ fitting_words ws at end → r ≡ 0 → linkage_fits ws at end ≡ false
  unfolding fitting_words
  fitting_none r q e = fits_not (λ f. let z : fitting_words ws at end ≡ linkage_words (word_at ws at) = rw f.does refl in omega arith)

  pub fitting_some : (r : ℕ) → r ≡ fitting_words ws at end → (r ≡ 0 → ⊥) → Fits r
  unfolding fitting_words
  fitting_some r q d = go (linkage_fits ws at end) refl
    where
      go : (t : Bool) → linkage_fits ws at end ≡ t → Fits r
      go true h = rw (q, h) (fits h)
      go false h = absurd (d (q ∙ rw h refl))

---- a fill and a walk, one linkage at a time

-- r is the answer of a fill, or of a walk to linkage k, from `at` to `end`, whatever the fuel, where it is enough
abbrev pub IsFill : List ℕ → ℕ → ℕ → Bool → Type 0
IsFill ws at end r = (n : ℕ) → end - at < n → r ≡ fill_from n ws at end

abbrev pub IsWalk : List ℕ → ℕ → ℕ → ℕ → Option Linkage → Type 0
IsWalk ws at end k r = (n : ℕ) → end - at < n → r ≡ linkage_from n ws at end k

module _ (ws : List ℕ) (at end : ℕ) where
  pub fill_end : at ≡ end → IsFill ws at end true
  unfolding fill_from
  fill_end e zero lt = absurd (omega arith)
  fill_end e (suc n) lt = rw (eq-eqb _ _ e) refl

  pub fill_stops : (at ≡ end → ⊥) → linkage_fits ws at end ≡ false → IsFill ws at end false
  unfolding fill_from
  fill_stops d f zero lt = absurd (omega arith)
  fill_stops d f (suc n) lt = rw (ne_eqb _ _ d, f) refl

  pub fill_on : (m : ℕ) (r : Bool) → (at ≡ end → ⊥) → Fits ws at end m → IsFill ws (at + m) end r → IsFill ws at end r
  unfolding fill_from
  fill_on m r d f i zero lt = absurd (omega arith)
  fill_on m r d f i (suc n) lt = rw (ne_eqb _ _ d, f.does, ← f.is) (i n (omega (arith, f.some, f.within)))

  pub walk_stops : (k : ℕ) → linkage_fits ws at end ≡ false → IsWalk ws at end k None
  unfolding linkage_from
  walk_stops k f zero lt = absurd (omega arith)
  walk_stops k f (suc n) lt = rw f refl

  pub walk_here : (k m : ℕ) → k ≡ 0 → Fits ws at end m → IsWalk ws at end k (linkage_at ws at)
  unfolding linkage_from
  walk_here k m e f zero lt = absurd (omega arith)
  walk_here k m e f (suc n) lt = rw (e, f.does) refl

  pub walk_on : (k m : ℕ) (r : Option Linkage) → (k ≡ 0 → ⊥) → Fits ws at end m → IsWalk ws (at + m) end (k - 1) r → IsWalk ws at end k r
  unfolding linkage_from
  walk_on k m r d f i zero lt = absurd (omega arith)
  walk_on zero m r d f i (suc n) lt = absurd (d refl)
  walk_on (suc k) m r d f i (suc n) lt = rw (f.does, ← f.is) (rw sub-one at (i n (omega (arith, f.some, f.within))))
