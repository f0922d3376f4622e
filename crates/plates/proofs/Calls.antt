-- The call at a place: in an accepted file an element's direct components are those that its extents lead over.
use Prim.Native.Nat.{ℕ, ◌+◌, min}
use mathlib.Core.Path.{◌≡◌, refl, ap, ◌∙◌}
use mathlib.Core.Bool.{cond}
use mathlib.Core.List.{List}
use mathlib.Core.Option.{some}
use native.Mathlib.Omega.{arith}
use lib.ListN.{length}
use Rattle.std.specs.Prelude.{Ok}
use Rattle.refusals.specs.Refusals.{refused_with}
use Rattle.words.specs.Words.{words}
use Rattle.kinds.specs.Kinds.{is_cell}
use Rattle.headers.specs.Header.{type_at, size_at, extent_words}
use Rattle.files.specs.Judge.{judge_of}
use Rattle.files.specs.Spots.{Spot, spots_of, spot_in}
use Rattle.files.specs.Accepted.{accepted_with}
use Rattle.places.specs.Places.{spotted_at}
use Rattle.places.specs.declared.Above.{Above}
use Rattle.places.specs.Spotted.{spotted_with}
use Rattle.promises.specs.Components.{direct_places}
use Rattle.promises.proofs.Promises.{place_found, components_are}
use Rattle.plates.specs.Plates.{live_among, live_direct, plate_on, plate_at, plate_of}
use Rattle.plates.specs.Hops.{hops, hops_under, plate_here, plate_in}
use Rattle.plates.proofs.Hops.{behind_hops}

module _ (dim : ℕ) (s : List ℕ) (e d m at : ℕ) (x : Spot) (j : judge_of dim s ≡ accepted_with e d m) (f : spot_in (spots_of dim (words s)) at ≡ some x) where
  pub hops_direct : hops_under (words s) at ≡ direct_places (spots_of dim (words s)) at
  hops_direct =
      let c = components_are dim s e d m at x j f in
      let z : min (at + extent_words (words s) at) (length (words s)) ≡ x.end = let a = c.extent in let b = c.inside in omega arith in
      ap (hops (words s) (at + size_at (words s) at)) z ∙ behind_hops (words s) x.end (at + size_at (words s) at) (direct_places (spots_of dim (words s)) at) c.components

  pub here_is : plate_here (words s) at ≡ plate_at dim (words s) at
  unfolding live_direct
  here_is = ap (λ qs. plate_on (words s) at (live_among (words s) qs)) hops_direct

  pub in_is : plate_in (words s) at ≡ cond (is_cell (type_at (words s) at)) (Ok (plate_at dim (words s) at)) (refused_with 18 0)
  unfolding plate_in
  in_is = ap (λ a. cond (is_cell (type_at (words s) at)) (Ok a) (refused_with 18 0)) here_is

-- an element that is found
pub found_is : (dim : ℕ) (s : List ℕ) (at end depth : ℕ) (above : Above) → spotted_at dim s at ≡ spotted_with end depth above → plate_in (words s) at ≡ plate_of dim s at
unfolding plate_of
found_is dim s at end depth above q =
    let g = place_found dim s at end depth above q in
    in_is dim s g.elements g.deepest g.marker at g.spot g.judged g.is ∙ rw q refl
