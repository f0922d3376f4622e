-- The walk by what the loop keeps of it: a place, a depth, and for each depth where the list around it ends.
use Prim.Native.Nat.{ℕ, zero, suc, ◌+◌, ◌≤◌, ◌<◌}
use mathlib.Core.Path.{◌≡◌, refl, sym, ap, ◌∙◌}
use mathlib.Core.Logic.{◌≢◌}
use mathlib.Core.Bool.{Bool, true, false, cond, ◌&&◌, and-eq-true_iff}
use mathlib.Core.List.{List}
use native.Mathlib.Omega.{arith}
use lib.ListN.{length, get_or, set, replicate, length-set}
use lib.Seq.{get_or-set_same}
use lib.Dec.{eqb, ltb}
use Rattle.kinds.specs.Kinds.{is_header}
use Rattle.headers.specs.Header.{type_at, size_at, extent_at, extent_words}
use Rattle.headers.proofs.Laws.{words_header}
use Rattle.walking.specs.declared.Walk.{Walk}
use Rattle.walking.specs.Walk.{closed_to, opens, next_of}
use Rattle.walking.proofs.Steps.{opens_shallow, next_by, closed_here}
use Rattle.dgn_texts.specs.Texts.{walk_of}

pub record Walking (ws : List ℕ) (i place depth : ℕ) (ends : List ℕ) (end : ℕ) : Type 0 where
  pub is : record { place = place; depth = depth; ends = ends } ≡ walk_of ws i
  pub nine : length ends ≡ 9
  pub deep : depth ≤ 8
  pub kept : end ≡ get_or ends depth 0

pub walking_start : (ws : List ℕ) → Walking ws 0 0 0 (replicate 9 0) 0
walking_start ws = record { is = refl; nine = refl; deep = omega arith; kept = refl }

closed_by : (d : ℕ) (ends : List ℕ) (next : ℕ) → closed_to d ends next ≤ d
closed_by zero ends next = omega arith
closed_by (suc d) ends next = go (eqb (get_or ends (suc d) 0) next) (closed_by d ends next)
  where
    go : (b : Bool) → closed_to d ends next ≤ d → cond b (closed_to d ends next) (suc d) ≤ suc d
    go true h = omega arith
    go false h = omega arith

opens_header : (ws : List ℕ) (at depth : ℕ) → opens ws at depth ≡ true → extent_words ws at ≡ extent_at ws at
unfolding opens
opens_header ws at depth e =
    let in_depth = ((and-eq-true_iff (ltb depth 8) (is_header (type_at ws at) && ltb (size_at ws at) (extent_at ws at))).0 e).1 in
    words_header ws at ((and-eq-true_iff (is_header (type_at ws at)) (ltb (size_at ws at) (extent_at ws at))).0 in_depth).0

module _ {ws : List ℕ} {i place depth : ℕ} {ends : List ℕ} {end : ℕ} (w : Walking ws i place depth ends end) (inside : place < length ws) (next : ℕ) (z : next ≡ place + size_at ws place) where
  abbrev here : Walk
  here = record { place = place; depth = depth; ends = ends }

  -- to the next element
  onward : (v : Walk) → v ≡ next_of ws here → v ≡ walk_of ws (i + 1)
  onward v e = let one : suc i ≡ i + 1 = omega arith in e ∙ ap (next_of ws) w.is ∙ ap (walk_of ws) one

  -- to the first component of a header
  pub walk_in : opens ws place depth ≡ true → (extent : ℕ) → extent ≡ extent_words ws place → Walking ws (i + 1) next (depth + 1) (set ends (depth + 1) (place + extent)) (place + extent)
  walk_in o extent e =
      let shallow = opens_shallow ws place depth o in
      let n = w.nine in
      let x = e ∙ opens_header ws place depth o in
      record {
        is = onward (record { place = next; depth = depth + 1; ends = set ends (depth + 1) (place + extent) }) (rw (z, x) (next_by ws here true inside o));
        nine = length-set ends (depth + 1) (place + extent) ∙ n;
        deep = omega arith;
        kept = sym (get_or-set_same ends (depth + 1) (place + extent) 0 (omega arith));
      }

  module _ (o : opens ws place depth ≡ false) where
    over : (d : ℕ) → d ≡ closed_to depth ends next → record { place = next; depth = d; ends = ends } ≡ walk_of ws (i + 1)
    over d e = onward (record { place = next; depth = d; ends = ends }) (rw (e, z) (next_by ws here false inside o))

    -- past the last element of a list
    pub walk_out : (d : ℕ) → d ≡ closed_to depth ends next → (after : ℕ) → after ≡ get_or ends d 0 → Walking ws (i + 1) next d ends after
    walk_out d e after k =
        let by = closed_by depth ends next in
        let deep = w.deep in
        record { is = over d e; nine = w.nine; deep = omega arith; kept = k }

    -- past any other
    pub walk_on : next ≢ end → Walking ws (i + 1) next depth ends end
    walk_on h = record { is = over depth (sym (closed_here depth ends next (λ q. h (sym (w.kept ∙ q))))); nine = w.nine; deep = w.deep; kept = w.kept }
