-- The element of a list that has a place in its extent: one law for each way through the search, which any number of
-- elements that is enough decides alike.
use Prim.Native.Nat.{ℕ, zero, suc, ◌+◌, ◌≤◌, ◌<◌}
use native.Mathlib.Omega.{arith}
use mathlib.Core.Path.{◌≡◌, refl, sym, ◌∙◌}
use mathlib.Core.Logic.{◌≢◌}
use mathlib.Core.Bool.{Bool, true, false, cond}
use mathlib.Core.List.{List}
use lib.Dec.{eqb, leb}
use borrow.Author.Tests.{eq-eqb, ne_eqb, le-leb, lt-leb, leb-true, leb-false}
use Rattle.headers.specs.Header.{size_at, extent_words}
use Rattle.headers.proofs.Laws.{words_two}
use Rattle.totals.specs.Totals.{holder_at, holder_from, holder_of}
use Rattle.totals.specs.declared.Holder.{Holder}
use Rattle.totals.specs.declared.Holder.TheVariants.{Nowhere, Itself, Inside}

---- one element

module _ (ws : List ℕ) (at p : ℕ) where
  pub at_itself : at ≡ p → holder_at ws at p ≡ Itself
  unfolding holder_at
  at_itself e = rw (eq-eqb at p e) refl

  pub at_inside : at ≢ p → at + size_at ws at ≤ p → holder_at ws at p ≡ Inside at (at + size_at ws at)
  unfolding holder_at
  at_inside e h = rw (ne_eqb at p e, le-leb (at + size_at ws at) p h) refl

  pub at_neither : at ≢ p → p < at + size_at ws at → holder_at ws at p ≡ Nowhere
  unfolding holder_at
  at_neither e h = rw (ne_eqb at p e, lt-leb (at + size_at ws at) p h) refl

---- the search

from_past : (k : ℕ) (ws : List ℕ) (at p : ℕ) → at + extent_words ws at ≤ p → holder_from (suc k) ws at p ≡ holder_from k ws (at + extent_words ws at) p
unfolding holder_from
from_past k ws at p h = rw (le-leb (at + extent_words ws at) p h) refl

from_here : (k : ℕ) (ws : List ℕ) (at p : ℕ) → p < at + extent_words ws at → holder_from (suc k) ws at p ≡ holder_at ws at p
unfolding holder_from
from_here k ws at p h = rw (lt-leb (at + extent_words ws at) p h) refl

from_beyond : (k : ℕ) (ws : List ℕ) (at p : ℕ) → p < at → holder_from k ws at p ≡ Nowhere
unfolding holder_from
from_beyond zero ws at p h = refl
from_beyond (suc k) ws at p h = from_here k ws at p (omega arith) ∙ at_neither ws at p (omega arith) (omega arith)

from_enough : (j k : ℕ) (ws : List ℕ) (at p : ℕ) → p < at + j → p < at + k → holder_from j ws at p ≡ holder_from k ws at p
from_enough zero k ws at p h i = from_beyond zero ws at p (omega arith) ∙ sym (from_beyond k ws at p (omega arith))
from_enough (suc j) zero ws at p h i = from_beyond (suc j) ws at p (omega arith) ∙ sym (from_beyond zero ws at p (omega arith))
from_enough (suc j) (suc k) ws at p h i = go (leb (at + extent_words ws at) p) refl (from_enough j k ws (at + extent_words ws at) p)
  where
    go : (b : Bool) → leb (at + extent_words ws at) p ≡ b →
        (p < at + extent_words ws at + j → p < at + extent_words ws at + k → holder_from j ws (at + extent_words ws at) p ≡ holder_from k ws (at + extent_words ws at) p) →
        holder_from (suc j) ws at p ≡ holder_from (suc k) ws at p
    go true e r =
        let l = leb-true (at + extent_words ws at) p e in
        let two = words_two ws at in
        from_past j ws at p l ∙ r (omega arith) (omega arith) ∙ sym (from_past k ws at p l)
    go false e r =
        let l = leb-false (at + extent_words ws at) p e in
        from_here j ws at p l ∙ sym (from_here k ws at p l)

module _ (ws : List ℕ) (at p : ℕ) where
  pub holder_past : at + extent_words ws at ≤ p → holder_of ws at p ≡ holder_of ws (at + extent_words ws at) p
  unfolding holder_of
  holder_past h =
      let two = words_two ws at in
      from_past p ws at p h ∙ from_enough p (suc p) ws (at + extent_words ws at) p (omega arith) (omega arith)

  pub holder_here : p < at + extent_words ws at → holder_of ws at p ≡ holder_at ws at p
  unfolding holder_of
  holder_here h = from_here p ws at p h

  pub holder_beyond : p < at → holder_of ws at p ≡ Nowhere
  unfolding holder_of
  holder_beyond h = from_beyond (suc p) ws at p h

---- a header around a place starts before it, and so do its components

abbrev pub Around : ℕ → Holder → Type 0
Around p Nowhere = Unit {0}
Around p Itself = Unit {0}
Around p (Inside q inner) = (q < inner) × (inner ≤ p)

around_at : (ws : List ℕ) (at p : ℕ) → Around p (holder_at ws at p)
unfolding holder_at
around_at ws at p = go (eqb at p) (leb (at + size_at ws at) p) refl
  where
    go : (a b : Bool) → leb (at + size_at ws at) p ≡ b → Around p (cond a Itself (cond b (Inside at (at + size_at ws at)) Nowhere))
    go true b e = tt
    go false true e = let l = leb-true (at + size_at ws at) p e in (omega arith, l)
    go false false e = tt

around_from : (k : ℕ) (ws : List ℕ) (at p : ℕ) → Around p (holder_from k ws at p)
unfolding holder_from
around_from zero ws at p = tt
around_from (suc k) ws at p = go (leb (at + extent_words ws at) p) (around_from k ws (at + extent_words ws at) p)
  where
    go : (b : Bool) → Around p (holder_from k ws (at + extent_words ws at) p) → Around p (cond b (holder_from k ws (at + extent_words ws at) p) (holder_at ws at p))
    go true r = r
    go false r = around_at ws at p

pub holder_around : (ws : List ℕ) (at p : ℕ) (h : Holder) → h ≡ holder_of ws at p → Around p h
unfolding holder_of
holder_around ws at p h e = rw e (around_from (suc p) ws at p)
