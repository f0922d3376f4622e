-- The path from the top down to an element, by the tree's way to it: the headers around an element are those down to its
-- direct header, which is an element of the file and a header.
use Prim.Native.Nat.{ℕ, ◌+◌, ◌<◌}
use native.Mathlib.Omega.{arith}
use mathlib.Core.Path.{◌≡◌, sym, ap, ◌∙◌, subst}
use mathlib.Core.Bool.{true, ◌&&◌, ◌||◌, and-eq-true_iff}
use mathlib.Core.List.{List, [], ◌∷◌, ◌++◌}
use mathlib.Core.Option.{none, some}
use lib.ListN.{length}
use Rattle.headers.specs.Header.{type_at}
use Rattle.kinds.specs.Kinds.{is_header}
use Rattle.files.specs.Spots.{Spot, spots_of, spot_in}
use Rattle.grammar.proofs.Forest.{Forest, node, flat, weight, Wf, spots, own_stands}
use Rattle.grammar.proofs.Stands.{Stands}
use Rattle.grammar.proofs.Rules.{own_type}
use Rattle.edits.specs.Edits.{around, down_to}
use Rattle.edits.specs.Allowed.{starts_at, is_under, ends_at, gap_ok}
use Rattle.edits.proofs.Accepted.{Accepted}
use Rattle.edits.proofs.Ways.{Way, plug, front, heads, header_of, depth_of, elem_of, heads_of}
use Rattle.grammar.proofs.Places.{spot_of}
use Rattle.edits.proofs.Places.{inside, around_way, spot_way, found_in}
use Rattle.edits.proofs.Raised.{stands_way}
use Rattle.edits.proofs.Gaps.{starts, file_stands, file_long, above_way}
use Rattle.edits.proofs.Judging.{tree_spots}

-- an element of a file: the way to it in the file's tree
pub record Element (dim : ℕ) (ws : List ℕ) (p : ℕ) (x : Spot) : Type 0 where
  pub way : Way
  pub own : List ℕ
  pub components : Forest
  pub rest : Forest
  pub wf : Wf dim 0 0 (plug way (node own components rest))
  pub place : p ≡ 0 + length (front way)
  pub words : ws ≡ flat (plug way (node own components rest)) ++ (65535 ∷ [])
  pub spots : spots_of dim ws ≡ spots 0 none 0 (plug way (node own components rest))
  pub spot : x ≡ spot_of p (weight own components) (depth_of 0 way) (header_of none 0 way)

pub element_at : (dim : ℕ) (ws : List ℕ) (p : ℕ) (x : Spot) → Accepted dim ws → spot_in (spots_of dim ws) p ≡ some x → Element dim ws p x
element_at dim ws p x a e =
    let z = tree_spots dim a.tree ws a.wf a.words in
    let g = found_in 0 none 0 a.tree p x (ap (λ xs. spot_in xs p) (sym z) ∙ e) in
    make g.way g.own g.components g.rest g.tree g.place z
  where
    make : (w : Way) (own : List ℕ) (k r : Forest) → a.tree ≡ plug w (node own k r) → p ≡ 0 + length (front w) → spots_of dim ws ≡ spots 0 none 0 a.tree → Element dim ws p x
    make w own k r t q z =
        let y : Wf dim 0 0 (plug w (node own k r)) = subst (Wf dim 0 0) t a.wf in
        let zt : spots_of dim ws ≡ spots 0 none 0 (plug w (node own k r)) = z ∙ ap (spots 0 none 0) t in
        let s = spot_way dim own k r 0 0 none w y 0 p q in
        let n : some x ≡ some (spot_of p (weight own k) (depth_of 0 w) (header_of none 0 w)) = sym e ∙ ap (λ xs. spot_in xs p) zt ∙ s in
        record {
          way = w;
          own = own;
          components = k;
          rest = r;
          wf = y;
          place = q;
          words = a.words ∙ ap (λ f. flat f ++ (65535 ∷ [])) t;
          spots = zt;
          spot = cc n;
        }

module _ {dim : ℕ} {ws : List ℕ} {p : ℕ} {x : Spot} (g : Element dim ws p x) where
  pub element_stands : Stands (flat (plug g.way (node g.own g.components g.rest))) 0 ws
  element_stands = file_stands (plug g.way (node g.own g.components g.rest)) ws g.words

  pub element_within : p < length ws
  element_within =
      let i = inside dim g.own g.components g.rest 0 0 g.way g.wf in
      let l = file_long (plug g.way (node g.own g.components g.rest)) ws g.words in
      let q = g.place in
      omega arith

  pub element_own : Stands g.own p ws
  element_own =
      let s = stands_way g.way (node g.own g.components g.rest) 0 ws element_stands in
      subst (λ a. Stands g.own a ws) (sym g.place) (own_stands g.own g.components g.rest s)

  pub element_type : type_at ws p ≡ type_at g.own 0
  element_type = own_type (elem_of dim g.own g.components g.rest 0 0 g.way g.wf).0 element_own

  -- the headers around it are those on the way
  pub element_around : around (spots_of dim ws) p ≡ heads 0 g.way
  element_around = ap (λ xs. around xs p) g.spots ∙ around_way dim g.own g.components g.rest 0 0 none g.way g.wf 0 p g.place

---- the headers around an element

-- they are the path down to its direct header; none at the top
pub around_header : (dim : ℕ) (ws : List ℕ) (p : ℕ) (x : Spot) → Accepted dim ws → spot_in (spots_of dim ws) p ≡ some x →
    around (spots_of dim ws) p ≡ down_to (spots_of dim ws) x.header
around_header dim ws p x a e =
    let g = element_at dim ws p x a e in
    let v = above_way dim g.way (node g.own g.components g.rest) ws g.wf g.words in
    element_around g
    ∙ sym (ap (λ xs. down_to xs x.header) g.spots
    ∙ ap (λ y. down_to (spots 0 none 0 (plug g.way (node g.own g.components g.rest))) y.header) g.spot ∙ v.down)

-- a header that a piece may go in under is one of the file
pub gap_header : (xs : List Spot) (ws : List ℕ) (h p : ℕ) → gap_ok xs ws (some h) p ≡ true → ((y : Spot) × (spot_in xs h ≡ some y)) × (is_header (type_at ws h) ≡ true)
unfolding gap_ok
gap_header xs ws h p e =
    let a = (and-eq-true_iff (starts_at xs h) (is_header (type_at ws h) && (is_under (spot_in xs p) (some h) || ends_at (spot_in xs h) p))).0 e in
    let b = (and-eq-true_iff (is_header (type_at ws h)) (is_under (spot_in xs p) (some h) || ends_at (spot_in xs h) p)).0 a.1 in
    (starts (spot_in xs h) a.0, b.0)

-- and so is an element's direct header
pub header_stands : (dim : ℕ) (ws : List ℕ) (p h : ℕ) (x : Spot) → Accepted dim ws → spot_in (spots_of dim ws) p ≡ some x → x.header ≡ some h →
    ((y : Spot) × (spot_in (spots_of dim ws) h ≡ some y)) × (is_header (type_at ws h) ≡ true)
header_stands dim ws p h x a e q =
    let g = element_at dim ws p x a e in
    let f = node g.own g.components g.rest in
    let v = above_way dim g.way f ws g.wf g.words in
    let m = v.gap (heads_of dim g.own g.components g.rest 0 0 g.way g.wf) in
    let n : header_of none 0 g.way ≡ some h = sym (ap (λ y. y.header) g.spot) ∙ q in
    gap_header (spots_of dim ws) ws h (length (front g.way)) (ap (λ xs. gap_ok xs ws (some h) (length (front g.way))) g.spots
    ∙ ap (λ o. gap_ok (spots 0 none 0 (plug g.way f)) ws o (length (front g.way))) (sym n) ∙ m)
