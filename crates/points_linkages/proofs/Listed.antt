-- Linkage k of an element of an accepted file is the k-th of its linkages: the element passes its tests, so linkages fill its
-- attribute part, and the walk gives the k-th of them.
use Prim.Native.Nat.{ℕ, ◌+◌, ◌-◌}
use mathlib.Core.Path.{◌≡◌, ap}
use mathlib.Core.Bool.{true, false, ◌&&◌}
use mathlib.Core.List.{List}
use mathlib.Core.Option.{some}
use native.Mathlib.Omega.{arith}
use lib.ListN.{length}
use lib.Dec.{leb}
use borrow.Author.Tests.{leb-true}
use Rattle.words.specs.Words.{words}
use Rattle.kinds.specs.Kinds.{fixed_part}
use Rattle.linkages.specs.Linkages.{linkages_fill}
use Rattle.linkages.specs.Listed.{FilledBy}
use Rattle.linkages.proofs.Listed.{fill_listed, linkage_is}
use Rattle.headers.specs.Header.{type_at, size_at, sizing_at, attribute_part_at}
use Rattle.headers.proofs.Checks.{both_true}
use Rattle.elements.specs.Attributes.{has_attributes, attributes_ok, linkages_ok}
use Rattle.elements.proofs.Laws.{Checked}
use Rattle.files.specs.Judge.{judge_of}
use Rattle.files.specs.Spots.{Spot, spots_of, spot_in}
use Rattle.places.proofs.Places.{spot_rules, spotted_found}
use Rattle.points_linkages.specs.Linkages.{attribute_by, linkage_of}
use Rattle.points_linkages.specs.Listed.{ByNumber}
use Rattle.files.specs.Accepted.{accepted_with}
use Rattle.refusals.specs.Refusals.{refused_with}

-- an element that passes its tests and has attributes: linkages fill its attribute part
part_filled : {dim depth under : ℕ} (ws : List ℕ) (at : ℕ) → Checked dim depth under ws at (length ws) → has_attributes ws at ≡ true →
    (xs : List (List ℕ)) × FilledBy xs ws (at + attribute_part_at ws at) (at + size_at ws at)
unfolding linkages_ok attributes_ok
part_filled {dim = dim} ws at c h =
    let part = attribute_part_at ws at in
    let size = size_at ws at in
    let ok : (leb (fixed_part dim (type_at ws at) (sizing_at dim ws at)) part && (leb part size && linkages_fill ws (at + part) (at + size))) ≡ true = rw h at c.linkages in
    let inside = both_true (leb part size) (linkages_fill ws (at + part) (at + size)) (both_true (leb (fixed_part dim (type_at ws at) (sizing_at dim ws at)) part) _ ok).1 in
    let a = leb-true part size inside.0 in
    let two = leb-true 2 (length ws - at) c.two in
    let fits = leb-true size (length ws - at) c.size in
    fill_listed ws (at + part) (at + size) (omega arith) (omega arith) inside.1

-- the call for linkage k gives the k-th of them
pub by_number : (dim : ℕ) (s : List ℕ) (place e d m : ℕ) (x : Spot) → judge_of dim s ≡ accepted_with e d m → spot_in (spots_of dim (words s)) place ≡ some x →
    has_attributes (words s) place ≡ true → ByNumber dim s place
unfolding linkage_of
by_number dim s place e d m x j q h =
    let r = part_filled (words s) place (spot_rules dim s e d m j place x q).checked h in
    record {
      linkages = r.0;
      fill = r.1;
      gives = λ k. rw (spotted_found dim s place e d m j, q, h) (ap attribute_by (linkage_is r.0 (words s) _ _ r.1 k));
    }

-- with A clear, or of a type that has no attributes, there are none
pub no_linkages : (dim : ℕ) (s : List ℕ) (place e d m : ℕ) (x : Spot) → judge_of dim s ≡ accepted_with e d m → spot_in (spots_of dim (words s)) place ≡ some x →
    has_attributes (words s) place ≡ false → (k : ℕ) → linkage_of dim s place k ≡ refused_with 13 0
unfolding linkage_of
no_linkages dim s place e d m x j q h k = rw (spotted_found dim s place e d m j, q, h)
