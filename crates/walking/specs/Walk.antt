-- The walk over an accepted file in file order: the next element with its depth. An element's components follow its
-- own words, and what follows the last component of a header follows the header's extent.
use Rattle.std.specs.Prelude.{ℕ, zero, suc, ◌+◌, List, Bool, cond, ◌&&◌, length, get_or, set, replicate, eqb, ltb}
use Rattle.headers.specs.Header.{type_at, size_at, extent_at}
use Rattle.kinds.specs.Kinds.{is_header}
use Rattle.walking.specs.declared.Walk.{Walk}

-- where the walk begins
abbrev pub walk_start : Walk
walk_start = record { place = 0; depth = 0; ends = replicate 9 0 }

-- a header whose extent goes beyond its own words has components; they are at depth 8 at most
unfoldable pub opens : List ℕ → ℕ → ℕ → Bool
opens ws at depth = ltb depth 8 && (is_header (type_at ws at) && ltb (size_at ws at) (extent_at ws at))

-- the depth of what stands at `next`, after an element of a depth: less by each list that ends there
abbrev pub closed_to : ℕ → List ℕ → ℕ → ℕ
closed_to zero ends next = 0
closed_to (suc d) ends next = cond (eqb (get_or ends (suc d) 0) next) (closed_to d ends next) (suc d)

-- to the first component of a header: one deeper, and the header's end is kept at that depth
abbrev pub step_in : List ℕ → Walk → Walk
step_in ws w = record {
  place = w.place + size_at ws w.place;
  depth = w.depth + 1;
  ends = set w.ends (w.depth + 1) (w.place + extent_at ws w.place);
}

-- past an element with nothing under it
abbrev pub step_over : List ℕ → Walk → Walk
step_over ws w = record {
  place = w.place + size_at ws w.place;
  depth = closed_to w.depth w.ends (w.place + size_at ws w.place);
  ends = w.ends;
}

-- the next element; beyond the words the walk stays, and its caller stops at the marker
unfoldable pub next_of : List ℕ → Walk → Walk
next_of ws w = cond (ltb w.place (length ws)) (cond (opens ws w.place w.depth) (step_in ws w) (step_over ws w)) w
