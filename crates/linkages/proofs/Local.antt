-- A fill and a walk depend on the words from the one place to the other alone. Both lists have one answer, found one
-- linkage at a time.
use Prim.Native.Nat.{ℕ, zero, suc, ◌+◌, ◌-◌, ◌≤◌, ◌<◌}
use mathlib.Core.Path.{◌≡◌, refl, sym, ap, ◌∙◌}
use mathlib.Core.Logic.{inl, inr}
use mathlib.Core.Bool.{Bool, true, false, cond}
use mathlib.Core.List.{List}
use native.Mathlib.Omega.{arith}
use Rattle.words.specs.Words.{word_at}
use Rattle.linkages.specs.Linkages.{is_user, linkage_words, linkage_fits, linkages_fill, linkage_at, linkage_in}
use Rattle.linkages.proofs.Laws.{words_two, Equal, equal, Fits, fits, fits_by, fits_not, IsFill, IsWalk, fill_end, fill_stops, fill_on, walk_stops, walk_here, walk_on}
use Rattle.std.specs.Prelude.{None, Option, Some}
use Rattle.linkages.specs.Linkage.{linkage_with}
use Rattle.linkages.specs.declared.Linkage.{Linkage}

---- the same word first and as many words left: a linkage fits in both or in neither

fits_same : (ws vs : List ℕ) (at end b fin : ℕ) → word_at ws at ≡ word_at vs b → end - at ≡ fin - b → linkage_fits ws at end ≡ linkage_fits vs b fin
fits_same ws vs at end b fin w e = rw (w, e) refl

-- a linkage that is found from the place p on, as it is found from the place q on
abbrev pub moved : ℕ → ℕ → Option Linkage → Option Linkage
moved p q (Some linkage) = linkage_with linkage.user (q + (linkage.place - p)) linkage.size linkage.id
moved p q None = None

module _ (ws vs : List ℕ) (p q len : ℕ) (same : (i : ℕ) → i < len → word_at ws (p + i) ≡ word_at vs (q + i)) where
  word_same : (i at b : ℕ) → i < len → at ≡ p + i → b ≡ q + i → word_at ws at ≡ word_at vs b
  word_same i at b h x y = rw (x, y) (same i h)

  fits_both : (j at b m : ℕ) → j < len → at ≡ p + j → b ≡ q + j → Fits ws at (p + len) m → Fits vs b (q + len) m
  fits_both j at b m h x y f = fits_by vs b (q + len) m (ap linkage_words (sym (word_same j at b h x y)) ∙ sym f.is) f.some (omega (arith, f.within))

  stops_both : (j at b : ℕ) → j ≤ len → at ≡ p + j → b ≡ q + j → linkage_fits ws at (p + len) ≡ false → linkage_fits vs b (q + len) ≡ false
  stops_both j at b le x y h = go (equal j len)
    where
      go : Equal j len → linkage_fits vs b (q + len) ≡ false
      go (inl e) = fits_not vs b (q + len) (λ f. omega (arith, f.some, f.within))
      go (inr d) = sym (fits_same ws vs at (p + len) b (q + len) (word_same j at b (omega arith) x y) (omega arith)) ∙ h

  -- both lists have one answer, for a fill and then for a walk
  abbrev Filled : ℕ → ℕ → Type 0
  Filled at b = (r : Bool) × IsFill ws at (p + len) r × IsFill vs b (q + len) r

  fill_both : (n j at b : ℕ) → len - j < n → j ≤ len → at ≡ p + j → b ≡ q + j → Filled at b
  fill_both zero j at b lt le x y = absurd (omega arith)
  fill_both (suc n) j at b lt le x y =
      go (equal j len) (linkage_fits ws at (p + len)) refl (λ m h s. fill_both n (j + m) (at + m) (b + m) (omega arith) h (omega arith) (omega arith))
    where
      go : Equal j len → (t : Bool) → linkage_fits ws at (p + len) ≡ t → ((m : ℕ) → j + m ≤ len → 1 ≤ m → Filled (at + m) (b + m)) → Filled at b
      go (inl e) t h k = (true, fill_end ws at (p + len) (omega arith), fill_end vs b (q + len) (omega arith))
      go (inr d) true h k =
          let f = fits ws at (p + len) h in
          let m = linkage_words (word_at ws at) in
          let r = k m (omega (arith, f.within)) f.some in (
            r.0,
            fill_on ws at (p + len) m r.0 (λ z. d (omega arith)) f r.1,
            fill_on vs b (q + len) m r.0 (λ z. d (omega arith)) (fits_both j at b m (omega arith) x y f) r.2,
          )
      go (inr d) false h k = (
        false,
        fill_stops ws at (p + len) (λ z. d (omega arith)) h,
        fill_stops vs b (q + len) (λ z. d (omega arith)) (stops_both j at b le x y h),
      )

  linkage_same : (j at b m : ℕ) → at ≡ p + j → b ≡ q + j → Fits ws at (p + len) m → moved p q (linkage_at ws at) ≡ linkage_at vs b
  linkage_same j at b m x y f =
      let w = word_same j at b (omega (arith, f.some, f.within)) x y in
      let place : q + (at - p) ≡ b = omega arith in
      rw (id_same w (is_user (word_at ws at)) refl, place, w) refl
    where
      id_same : word_at ws at ≡ word_at vs b → (u : Bool) → is_user (word_at ws at) ≡ u →
          cond (is_user (word_at ws at)) (word_at ws (at + 1)) 0 ≡ cond (is_user (word_at vs b)) (word_at vs (b + 1)) 0
      id_same w true h =
          let two = words_two (word_at ws at) h (omega (arith, f.is, f.some)) in
          rw (h, ap is_user (sym w) ∙ h) (word_same (j + 1) (at + 1) (b + 1) (omega (arith, f.is, f.within)) (omega arith) (omega arith))
      id_same w false h = rw (h, ap is_user (sym w) ∙ h) refl

  abbrev Walked : ℕ → ℕ → ℕ → Type 0
  Walked k at b = (r : Option Linkage) × IsWalk ws at (p + len) k r × IsWalk vs b (q + len) k (moved p q r)

  walk_both : (n j k at b : ℕ) → len - j < n → j ≤ len → at ≡ p + j → b ≡ q + j → Walked k at b
  walk_both zero j k at b lt le x y = absurd (omega arith)
  walk_both (suc n) j k at b lt le x y =
      go (linkage_fits ws at (p + len)) refl (equal k 0) (λ m h s. walk_both n (j + m) (k - 1) (at + m) (b + m) (omega arith) h (omega arith) (omega arith))
    where
      go : (t : Bool) → linkage_fits ws at (p + len) ≡ t → Equal k 0 → ((m : ℕ) → j + m ≤ len → 1 ≤ m → Walked (k - 1) (at + m) (b + m)) → Walked k at b
      go false h z s = (None, walk_stops ws at (p + len) k h, walk_stops vs b (q + len) k (stops_both j at b le x y h))
      go true h z s =
          let f = fits ws at (p + len) h in
          let m = linkage_words (word_at ws at) in
          let g = fits_both j at b m (omega (arith, f.some, f.within)) x y f in
          here z f g (s m (omega (arith, f.within)) f.some)
        where
          here : Equal k 0 → Fits ws at (p + len) (linkage_words (word_at ws at)) → Fits vs b (q + len) (linkage_words (word_at ws at)) →
              Walked (k - 1) (at + linkage_words (word_at ws at)) (b + linkage_words (word_at ws at)) → Walked k at b
          here (inl e) f g r = (linkage_at ws at, walk_here ws at (p + len) k _ e f, rw (linkage_same j at b _ x y f) (walk_here vs b (q + len) k _ e g))
          here (inr d) f g r = (r.0, walk_on ws at (p + len) k _ r.0 d f r.1, walk_on vs b (q + len) k _ (moved p q r.0) d g r.2)

---- the laws

pub fill_local : (ws vs : List ℕ) (at end b : ℕ) → at ≤ end → ((i : ℕ) → i < end - at → word_at ws (at + i) ≡ word_at vs (b + i)) →
    linkages_fill ws at end ≡ linkages_fill vs b (b + (end - at))
unfolding linkages_fill
fill_local ws vs at end b le same =
    let e : at + (end - at) ≡ end = omega arith in
    let r = fill_both ws vs at b (end - at) same (suc (end - at)) 0 at b (omega arith) (omega arith) (omega arith) (omega arith) in
    sym ((rw e at r.1) _ (omega arith)) ∙ r.2 _ (omega arith)

pub walk_local : (ws vs : List ℕ) (at end b k : ℕ) → at ≤ end → ((i : ℕ) → i < end - at → word_at ws (at + i) ≡ word_at vs (b + i)) →
    moved at b (linkage_in ws at end k) ≡ linkage_in vs b (b + (end - at)) k
unfolding linkage_in
walk_local ws vs at end b k le same =
    let e : at + (end - at) ≡ end = omega arith in
    let r = walk_both ws vs at b (end - at) same (suc (end - at)) 0 k at b (omega arith) (omega arith) (omega arith) (omega arith) in
    ap (moved at b) (sym ((rw e at r.1) _ (omega arith))) ∙ r.2 _ (omega arith)
