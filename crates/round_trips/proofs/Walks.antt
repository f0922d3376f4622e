-- A walk of linkages finds none before the place where it starts; so what it finds in a tail moves with the tail.
use Prim.Native.Nat.{ℕ, zero, suc, ◌+◌, ◌-◌, ◌≤◌}
use mathlib.Core.Path.{◌≡◌, refl}
use mathlib.Core.Bool.{Bool, true, false, cond}
use mathlib.Core.List.{List}
use native.Mathlib.Omega.{arith}
use Rattle.std.specs.Prelude.{None, Option, Some}
use Rattle.words.specs.Words.{word_at}
use Rattle.linkages.specs.Linkages.{linkage_words, linkage_fits, linkage_at, numbered, linkage_from, linkage_in}
use Rattle.linkages.proofs.Local.{moved}
use Rattle.points_linkages.specs.Linkages.{attribute_by}
use Rattle.linkages.specs.declared.Linkage.{Linkage}
use Rattle.round_trips.specs.Parts.{linkage_moved}

-- a linkage that is found does not begin before the first place
abbrev pub From : ℕ → Option Linkage → Type 0
From at (Some linkage) = at ≤ linkage.place
From at None = Unit {0}

from_later : (a b : ℕ) (l : Option Linkage) → a ≤ b → From b l → From a l
from_later a b (Some linkage) h p = omega arith
from_later a b None h p = tt

walk_from : (n : ℕ) (ws : List ℕ) (at end k : ℕ) → From at (linkage_from n ws at end k)
unfolding linkage_from
walk_from zero ws at end k = tt
walk_from (suc n) ws at end k =
    let m = linkage_words (word_at ws at) in
    go (linkage_fits ws at end) k (λ j. from_later at (at + m) (linkage_from n ws (at + m) end j) (omega arith) (walk_from n ws (at + m) end j))
  where
    go : (b : Bool) (k : ℕ) → ((j : ℕ) → From at (linkage_from n ws (at + linkage_words (word_at ws at)) end j)) →
        From at (cond b (numbered k (linkage_at ws at) (λ j. linkage_from n ws (at + linkage_words (word_at ws at)) end j)) None)
    go true zero r = omega arith
    go true (suc j) r = r j
    go false k r = tt

pub in_from : (ws : List ℕ) (at end k : ℕ) → From at (linkage_in ws at end k)
unfolding linkage_in
in_from ws at end k = walk_from (suc (end - at)) ws at end k

-- moved with the tail
pub moved_by : (from start : ℕ) (l : Option Linkage) → From start l → attribute_by (moved start (from + start) l) ≡ linkage_moved from l
moved_by from start (Some linkage) h = let e : from + start + (linkage.place - start) ≡ from + linkage.place = omega arith in rw e refl
moved_by from start None h = refl
