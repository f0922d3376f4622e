-- Words that stand at a place, word by word: the first and those after it; longs, each in two words.
use Prim.Native.Nat.{ℕ, suc, ◌+◌, ◌*◌, ◌/◌, ◌%◌, ◌≤◌, ◌<◌}
use mathlib.Core.Path.{◌≡◌, refl, ap, ◌∙◌, subst}
use mathlib.Core.List.{List, [], ◌∷◌, ◌++◌}
use native.Mathlib.Omega.{arith}
use native.Mathlib.Numerals.{add-one}
use lib.ListN.{length, take}
use lib.Seq.{drop-cons}
use Rattle.words.specs.Words.{Below, word_at, long_at}
use Rattle.kinds.proofs.Types.{Each}
use Rattle.grammar.proofs.Stands.{Stands, stands_nil, stands_word, stands_first, stands_right}
use Rattle.fields.specs.Words.{longs}

pub stands_cons : (w : ℕ) (l ws : List ℕ) (at : ℕ) → at < length ws → word_at ws at ≡ w → Stands l (at + 1) ws → Stands (w ∷ l) at ws
stands_cons w l ws at h e s = record {
  is =
      ap (take (suc (length l))) (drop-cons ws at 0 h) ∙ rw (e, ← add-one at, s.is) refl;
}

pub stands_at : {l ws : List ℕ} {at : ℕ} (b : ℕ) → at ≡ b → Stands l at ws → Stands l b ws
stands_at {l} {ws} b e s = subst (λ n. Stands l n ws) e s

---- longs

-- longs that are read one after another from a place on
abbrev pub LongsAt : List ℕ → ℕ → List ℕ → Type 0
LongsAt ws q [] = Unit {0}
LongsAt ws q (v ∷ vs) = (v ≡ long_at ws q) × LongsAt ws (q + 2) vs

pub longs_at_append : (ws : List ℕ) (q p : ℕ) (us vs : List ℕ) → p ≡ q + 2 * length us → LongsAt ws q us → LongsAt ws p vs → LongsAt ws q (us ++ vs)
longs_at_append ws q p [] vs e a b = let z : p ≡ q = omega arith in subst (λ n. LongsAt ws n vs) z b
longs_at_append ws q p (u ∷ us) vs e a b = (a.0, longs_at_append ws (q + 2) p us vs (omega arith) a.1 b)

-- longs whose words stand at a place are read there
pub longs_read : (vs ws : List ℕ) (q : ℕ) → Stands (longs vs) q ws → LongsAt ws q vs
longs_read [] ws q s = tt
longs_read (v ∷ vs) ws q s =
    let high = stands_first s (omega arith) in
    let low = stands_word s 1 (omega arith) in
    (omega arith, longs_read vs ws (q + 2) (stands_right (v / 65536 ∷ v % 65536 ∷ []) (longs vs) s))

module _ (ws : List ℕ) (b : Below 65536 ws) where
  -- a long is below 4294967296, and its two words are those that it was read of
  pub long_small : (q : ℕ) → long_at ws q < 4294967296
  long_small q = let x = b q in let y = b (q + 1) in omega arith

  pub longs_small : (q : ℕ) (vs : List ℕ) → LongsAt ws q vs → Each (λ x. x ≤ 4294967295) vs
  longs_small q [] l = tt
  longs_small q (v ∷ vs) l = (let x = long_small q in let e = l.0 in omega arith, longs_small (q + 2) vs l.1)

  pub longs_stand : (q : ℕ) (vs : List ℕ) → LongsAt ws q vs → q + 2 * length vs ≤ length ws → Stands (longs vs) q ws
  longs_stand q [] l h = stands_nil q ws
  longs_stand q (v ∷ vs) l h =
      let e = l.0 in
      let x = b q in
      let y = b (q + 1) in
      let next : Stands (longs vs) (q + 2) ws = longs_stand (q + 2) vs l.1 (omega arith) in
      stands_cons (v / 65536) (v % 65536 ∷ longs vs) ws q (omega arith) (omega arith)
      (stands_cons (v % 65536) (longs vs) ws (q + 1) (omega arith) (omega arith) (stands_at (q + 1 + 1) (omega arith) next))
