-- The two descents, one law for each way through them: what is done at a header, and how it goes on under it.
use Prim.Native.Nat.{ℕ, suc, ◌+◌, ◌-◌, ◌≤◌, ◌<◌, ◌/◌}
use native.Mathlib.Omega.{arith}
use mathlib.Core.Path.{◌≡◌, refl, sym, ap, ◌∙◌}
use mathlib.Core.Logic.{◌≢◌}
use mathlib.Core.Bool.{Bool, true, false}
use mathlib.Core.List.{List}
use lib.ListN.{length}
use lib.Dec.{leb}
use borrow.Author.Tests.{lt-ltb, le-ltb, le-leb, lt-leb, leb-true, leb-false}
use Rattle.words.specs.Words.{words}
use Rattle.headers.specs.Header.{type_at, extent_at}
use Rattle.kinds.specs.Kinds.{is_counted}
use Rattle.totals.specs.Totals.{holder_of, word_moved, header_put, totals_by, totals_from, totals_put, room_at, room_by, room_from, room_of}
use Rattle.totals.specs.declared.Holder.TheVariants.{Nowhere, Itself, Inside}
use Rattle.totals.specs.declared.Room.{Room}
use Rattle.totals.specs.declared.Room.TheVariants.{Fine, Full}

---- one header

module _ (up : Bool) (n q : ℕ) (s : List ℕ) where
  pub put_counted : (direct : Bool) → direct ≡ true → is_counted (type_at (words s) q) ≡ true →
      header_put up n direct q s ≡ word_moved up 1 (q + 19) (word_moved up n (q + 18) s)
  unfolding header_put
  put_counted direct d e = rw (d, e) refl

  pub put_uncounted : (direct : Bool) → direct ≡ true → is_counted (type_at (words s) q) ≡ false → header_put up n direct q s ≡ word_moved up n (q + 18) s
  unfolding header_put
  put_uncounted direct d e = rw (d, e) refl

  pub put_around : (direct : Bool) → direct ≡ false → header_put up n direct q s ≡ word_moved up n (q + 18) s
  unfolding header_put
  put_around direct d = rw d refl

---- the totals

module _ (up : Bool) (n header : ℕ) (s : List ℕ) where
  pub totals_none : (left at : ℕ) → left ≡ 0 → totals_from left up n header at s ≡ s
  unfolding totals_from
  totals_none left at e = rw e refl

  module _ (left at : ℕ) (some : left ≢ 0) where
    totals_by_lem : totals_from left up n header at s ≡ totals_by (holder_of (words s) at header) up n header s (λ inner t. totals_from (left - 1) up n header inner t)
    unfolding totals_from
    totals_by_lem = let e : left ≡ suc (left - 1) = omega arith in ap (λ k. totals_from k up n header at s) e

    pub totals_nowhere : holder_of (words s) at header ≡ Nowhere → totals_from left up n header at s ≡ s
    totals_nowhere e = totals_by_lem ∙ rw e refl

    pub totals_itself : holder_of (words s) at header ≡ Itself → totals_from left up n header at s ≡ header_put up n true header s
    totals_itself e = totals_by_lem ∙ rw e refl

    pub totals_inside : (q inner : ℕ) → holder_of (words s) at header ≡ Inside q inner →
        totals_from left up n header at s ≡ totals_from (left - 1) up n header inner (header_put up n false q s)
    totals_inside q inner e = totals_by_lem ∙ rw e refl

  pub put_here : header < length s / 2 → totals_put up n header s ≡ totals_from 9 up n header 0 s
  unfolding totals_put
  put_here h = rw (lt-ltb header (length s / 2) h) refl

  pub put_nowhere : length s / 2 ≤ header → totals_put up n header s ≡ s
  unfolding totals_put
  put_nowhere h = rw (le-ltb header (length s / 2) h) refl

---- the room

-- the test without a sum that could be too large
pub room_test : (t n : ℕ) → t ≤ 65516 → leb n (65516 - t) ≡ leb (19 + t + n) 65535
room_test t n h = go (leb n (65516 - t)) refl
  where
    go : (b : Bool) → leb n (65516 - t) ≡ b → b ≡ leb (19 + t + n) 65535
    go true e = let l = leb-true n (65516 - t) e in sym (le-leb (19 + t + n) 65535 (omega arith))
    go false e = let l = leb-false n (65516 - t) e in sym (lt-leb (19 + t + n) 65535 (omega arith))

-- at one header
pub room_fine : (n : ℕ) (ws : List ℕ) (q : ℕ) (rest : Room) → leb (extent_at ws q + n) 65535 ≡ true → room_at n ws q rest ≡ rest
unfolding room_at
room_fine n ws q rest e = rw e refl

pub room_full : (n : ℕ) (ws : List ℕ) (q : ℕ) (rest : Room) → leb (extent_at ws q + n) 65535 ≡ false → room_at n ws q rest ≡ Full q
unfolding room_at
room_full n ws q rest e = rw e refl

module _ (n header : ℕ) (ws : List ℕ) where
  pub room_none : (left at : ℕ) → left ≡ 0 → room_from left n header at ws ≡ Fine
  unfolding room_from
  room_none left at e = rw e refl

  module _ (left at : ℕ) (some : 0 < left) where
    room_by_lem : room_from left n header at ws ≡ room_by (holder_of ws at header) n header ws (λ inner. room_from (left - 1) n header inner ws)
    unfolding room_from
    room_by_lem = let e : left ≡ suc (left - 1) = omega arith in ap (λ k. room_from k n header at ws) e

    pub room_nowhere : holder_of ws at header ≡ Nowhere → room_from left n header at ws ≡ Fine
    room_nowhere e = room_by_lem ∙ rw e refl

    pub room_itself : holder_of ws at header ≡ Itself → room_from left n header at ws ≡ room_at n ws header Fine
    room_itself e = room_by_lem ∙ rw e refl

    pub room_inside : (q inner : ℕ) → holder_of ws at header ≡ Inside q inner → room_from left n header at ws ≡ room_at n ws q (room_from (left - 1) n header inner ws)
    room_inside q inner e = room_by_lem ∙ rw e refl

module _ (n header : ℕ) (s : List ℕ) where
  pub room_here : header < length s / 2 → room_of n header s ≡ room_from 9 n header 0 (words s)
  unfolding room_of
  room_here h = rw (lt-ltb header (length s / 2) h) refl

  pub room_out : length s / 2 ≤ header → room_of n header s ≡ Fine
  unfolding room_of
  room_out h = rw (le-ltb header (length s / 2) h) refl
