-- The plate that is put together from what was counted in passing.
use Prim.Native.Nat.{ℕ, ◌+◌, ◌≤◌, ◌<◌, min}
use mathlib.Core.Path.{◌≡◌, refl, ◌∙◌}
use mathlib.Core.Bool.{Bool, true, false, cond}
use mathlib.Core.List.{List}
use native.Mathlib.Omega.{arith}
use lib.ListN.{length, get_or}
use lib.Dec.{eqb, ltb}
use borrow.Author.Tests.{ltb-true, ltb-false}
use Rattle.kinds.specs.Kinds.{name_word}
use Rattle.headers.specs.Header.{size_at, extent_words, name_first, name_second}
use Rattle.plates.specs.Kinds.{is_kind}
use Rattle.plates.specs.Plates.{live_among, count_of, levels_at}
use Rattle.plates.specs.Hops.{hops, hops_under, plate_here, Tallies}
use Rattle.plates.proofs.Slots.{slots_are}

-- the smaller of two by a test
pub smaller : (a b r : ℕ) → r ≡ cond (ltb a b) a b → r ≡ min a b
smaller a b r e = go (ltb a b) refl e
  where
    go : (t : Bool) → ltb a b ≡ t → r ≡ cond t a b → r ≡ min a b
    go true h e = let l = ltb-true a b h in omega arith
    go false h e = let l = ltb-false a b h in omega arith

-- where a name begins
pub name_word_lem : (t r : ℕ) → r ≡ name_word t → r ≤ 19
name_word_lem t r e = go (eqb t 1) e
  where
    go : (b : Bool) → r ≡ cond b 16 19 → r ≤ 19
    go true e = omega arith
    go false e = omega arith

module _ (ws : List ℕ) (at from end : ℕ) (counts : List ℕ) (begins : from ≡ at + size_at ws at) (ends : end ≡ min (at + extent_words ws at) (length ws)) (tallied : Tallies ws from end counts) where
  counted : (k : ℕ) → k < 6 → get_or counts k 0 ≡ count_of (is_kind k) ws (live_among ws (hops_under ws at))
  counted k six = tallied k ∙ slots_are ws k six (hops ws from end) ∙ rw (begins, ends) refl

  pub here_plate : (first second levels : ℕ) → first ≡ name_first ws at → second ≡ name_second ws at → levels ≡ levels_at ws at →
      record {
        first = first;
        second = second;
        lines = get_or counts 0 0;
        pointed = get_or counts 1 0;
        texts = get_or counts 2 0;
        curves = get_or counts 3 0;
        headers = get_or counts 4 0;
        others = get_or counts 5 0;
        levels = levels;
      }
      ≡ plate_here ws at
  here_plate first second levels a b l = λ i. record {
    first = a i;
    second = b i;
    lines = counted 0 (omega arith) i;
    pointed = counted 1 (omega arith) i;
    texts = counted 2 (omega arith) i;
    curves = counted 3 (omega arith) i;
    headers = counted 4 (omega arith) i;
    others = counted 5 (omega arith) i;
    levels = l i;
  }
