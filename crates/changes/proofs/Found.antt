-- What the four edits name in an accepted used file: the place where a piece may go in and the headers above it; the
-- element that is found at a place, its extent and the headers around it.
use Prim.Native.Nat.{ℕ, ◌+◌, ◌-◌, ◌≤◌}
use mathlib.Core.Path.{◌≡◌, refl, sym, ap, ◌∙◌, subst}
use mathlib.Core.Bool.{true, false}
use mathlib.Core.List.{List}
use mathlib.Core.Option.{Option, none, some}
use native.Mathlib.Omega.{arith}
use lib.ListN.{length, length-append}
use Rattle.words.specs.Words.{words}
use Rattle.files.specs.Spots.{Spot, spots_of, spot_in}
use Rattle.grammar.proofs.Forest.{Forest, flat}
use Rattle.places.specs.declared.Above.{Above}
use Rattle.places.specs.declared.Above.TheVariants.{Top, Under}
use Rattle.places.specs.Places.{above_of, found_by}
use Rattle.edits.specs.Edits.{around, down_to, extent_in, raise}
use Rattle.edits.specs.Allowed.{fine, gap_ok, room_fault}
use Rattle.edits.proofs.Accepted.{Accepted}
use Rattle.edits.proofs.Ways.{Way, plug, front, rear, flat_plug}
use Rattle.edits.proofs.Gaps.{file_long, gap_found}
use Rattle.edits.proofs.Judging.{tree_spots}
use Rattle.totals.proofs.Paths.{element_at, around_header, gap_header}
use Rattle.totals.proofs.Totals.{totals_is, totals_around}
use Rattle.opening.specs.Opening.{header_of}
use Rattle.changes.specs.Changes.{totals_under}
use Rattle.places.specs.Spotted.{spotted_with}
use Rattle.places.specs.declared.Spotted.{Spotted}
use Rattle.refusals.proofs.Laws.{given_not_refused, given_is}

---- a place where a piece may go in

-- it is not past the marker
front_within : (f : Forest) (w : Way) (r : Forest) → f ≡ plug w r → length (front w) ≤ length (flat f)
front_within f w r e =
    let l : length (flat f) ≡ length (front w) + (length (flat r) + length (rear w)) = ap (λ g. length (flat g)) e ∙ rw (flat_plug w r) (simp length-append refl) in
    omega arith

pub gap_within : (dim : ℕ) (ws : List ℕ) (h : Option ℕ) (p : ℕ) → Accepted dim ws → gap_ok (spots_of dim ws) ws h p ≡ true → p ≤ length ws
gap_within dim ws h p a e =
    let same = tree_spots dim a.tree ws a.wf a.words in
    let g = gap_found dim a.tree a.wf ws a.words h p (subst (λ xs. gap_ok xs ws h p ≡ true) same e) in
    let l = file_long a.tree ws a.words in
    let i = front_within a.tree g.way g.rest g.tree in
    let q = g.place in
    omega arith

-- the totals down to its header are raised as the book raises them
pub raised_under : (dim n : ℕ) (h : Above) (p : ℕ) (s : List ℕ) → Accepted dim (words s) → gap_ok (spots_of dim (words s)) (words s) (header_of h) p ≡ true →
    room_fault n (words s) (down_to (spots_of dim (words s)) (header_of h)) ≡ fine →
    words (totals_under true n h s) ≡ raise true n (down_to (spots_of dim (words s)) (header_of h)) (words s)
raised_under dim n Top p s a e r = refl
raised_under dim n (Under h) p s a e r =
    let g = gap_header (spots_of dim (words s)) (words s) h p e in
    totals_is dim true n h s g.0.0 a g.0.1 g.1 (λ _. r)

---- an element that is found at a place

pub record Found (xs : List Spot) (p end : ℕ) (above : Above) : Type 0 where
  pub spot : Spot
  pub found : spot_in xs p ≡ some spot
  pub ends : spot.end ≡ end
  pub header : spot.header ≡ header_of above

above_header : (o : Option ℕ) → o ≡ header_of (above_of o)
above_header none = refl
above_header (some h) = refl

pub found_at : (xs : List Spot) (p end depth : ℕ) (above : Above) → found_by (spot_in xs p) ≡ spotted_with end depth above → Found xs p end above
found_at xs p end depth above e = go (spot_in xs p) refl e
  where
    go : (o : Option Spot) → spot_in xs p ≡ o → found_by o ≡ spotted_with end depth above → Found xs p end above
    go none i f = absurd (given_not_refused f)
    go (some x) i f =
        let same = given_is f in
        record { spot = x; found = i; ends = ap (λ (y : Spotted). y.end) same; header = above_header x.header ∙ ap (λ (y : Spotted). header_of y.above) same }

module _ (dim : ℕ) (s : List ℕ) (p end : ℕ) (above : Above) (a : Accepted dim (words s)) (f : Found (spots_of dim (words s)) p end above) where
  -- its extent's words
  pub found_extent : extent_in (spots_of dim (words s)) p ≡ end - p
  found_extent =
      let x = f.spot in
      let g = element_at dim (words s) p x a f.found in
      let q : x.place ≡ p = ap (λ (y : Spot). y.place) g.spot in
      let r = f.ends in
      rw f.found (omega arith)

  -- the totals around it are lowered as the book lowers them
  pub lowered_under : (n : ℕ) → words (totals_under false n above s) ≡ raise false n (around (spots_of dim (words s)) p) (words s)
  lowered_under n = go above f.header
    where
      go : (h : Above) → f.spot.header ≡ header_of h → words (totals_under false n h s) ≡ raise false n (around (spots_of dim (words s)) p) (words s)
      go Top q = sym (ap (λ qs. raise false n qs (words s)) (around_header dim (words s) p f.spot a f.found ∙ ap (down_to (spots_of dim (words s))) q))
      go (Under h) q = totals_around dim n p h s f.spot a f.found q
