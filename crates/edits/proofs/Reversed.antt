-- An edit is sound where the words after it, its record and the record's reversal are known; and a file is accepted again
-- where one element's own words are replaced by others of the same length and type.
use Prim.Native.Nat.{ℕ, zero, suc, ◌+◌, ◌≤◌, ◌<◌}
use native.Mathlib.Omega.{arith}
use mathlib.Core.Path.{◌≡◌, refl, ap, ◌∙◌, subst}
use mathlib.Core.Bool.{true}
use mathlib.Core.List.{List, [], ◌∷◌, ◌++◌, append_assoc}
use mathlib.Core.Option.{Option, none, some}
use lib.ListN.{length, length-append}
use Rattle.words.specs.Words.{Below, word_at}
use Rattle.headers.specs.Header.{type_at}
use Rattle.files.specs.Spots.{spots_of, spot_in}
use Rattle.grammar.proofs.Tests.{OwnTests}
use Rattle.grammar.proofs.Forest.{Forest, node, flat, num, weight, Wf, spots}
use Rattle.edits.specs.Edits.{Edit, apply}
use Rattle.edits.specs.Allowed.{fine, edit_fault, starts_at}
use Rattle.edits.specs.Records.{Rec, record_of, reversal, under_its_header, reversible}
use Rattle.edits.proofs.Accepted.{Accepted, Small, SmallHeader, Sound}
use Rattle.edits.proofs.Tests.{both_and}
use Rattle.edits.proofs.Bounds.{below_append}
use Rattle.edits.proofs.Parts.{below_left, below_right, read_in, read_first}
use Rattle.edits.proofs.Ways.{Way, stop, past, into, plug, front, rear, header_of, depth_of, type_over, elem_of, wf_swap}
use Rattle.grammar.proofs.Places.{spot_of}
use Rattle.edits.proofs.Places.{spot_way, inside, found_in}
use Rattle.edits.proofs.Raised.{words_of}
use Rattle.edits.proofs.Gaps.{starts, file_long}
use Rattle.edits.proofs.Judging.{tree_spots}

pub sound_of : (dim : ℕ) (ws : List ℕ) (e : Edit) (ws' : List ℕ) (r : Rec) (e' : Edit) → apply dim ws e ≡ ws' → record_of dim ws e ≡ r → reversal ws' r ≡ e' →
    Accepted dim ws' → under_its_header (spots_of dim ws') r ≡ true → edit_fault dim ws' e' ≡ fine → apply dim ws' e' ≡ ws → Small r → Sound dim ws e
unfolding reversible
sound_of dim ws e ws' r e' a q v k p f s m = record { kept = rw a k; back = rw (a, q, v, f) (both_and p refl); same = rw (a, q, v) s; small = rw q m }

-- the marker
abbrev pub marker : List ℕ
marker = 65535 ∷ []

pub below_marker : Below 65536 marker
below_marker zero = omega arith
below_marker (suc i) = omega arith

-- what stands after an element's own words
abbrev pub behind : Way → Forest → Forest → List ℕ
behind w k r = (flat k ++ flat r) ++ (rear w ++ marker)

pub own_words : (w : Way) (own : List ℕ) (k r : Forest) → flat (plug w (node own k r)) ++ marker ≡ front w ++ (own ++ behind w k r)
own_words w own k r = words_of w (node own k r) marker ∙ ap (λ l. front w ++ l) (append_assoc own (flat k ++ flat r) (rear w ++ marker))

---- an element that a way leads to, in the words of the file

module _ (dim : ℕ) (w : Way) (own : List ℕ) (k r : Forest) (ws : List ℕ) (ew : ws ≡ flat (plug w (node own k r)) ++ marker) where
  pub word_there : (i p : ℕ) → p ≡ length (front w) → i < length own → word_at ws (p + i) ≡ word_at own i
  word_there i p e h = rw (ew ∙ own_words w own k r, e) (read_in (front w) own (behind w k r) (length (front w)) refl i h)

  pub first_there : (p : ℕ) → p ≡ length (front w) → 0 < length own → word_at ws p ≡ word_at own 0
  first_there p e h = rw (ew ∙ own_words w own k r, e) (read_first (front w) own (behind w k r) (length (front w)) refl h)

  pub spot_there : Wf dim 0 0 (plug w (node own k r)) → (p : ℕ) → p ≡ length (front w) →
      spot_in (spots_of dim ws) p ≡ some (spot_of p (weight own k) (depth_of 0 w) (header_of none 0 w))
  spot_there x p e = rw (tree_spots dim (plug w (node own k r)) ws x ew) (spot_way dim own k r 0 0 none w x 0 p (omega arith))

  pub starts_there : Wf dim 0 0 (plug w (node own k r)) → (p : ℕ) → p ≡ length (front w) → starts_at (spots_of dim ws) p ≡ true
  starts_there x p e = rw (spot_there x p e) refl

  pub place_small : Wf dim 0 0 (plug w (node own k r)) → length ws ≤ 524288 → (p : ℕ) → p ≡ length (front w) → p < 4294967296
  place_small x l p e =
      let i = inside dim own k r 0 0 w x in
      let n = file_long (plug w (node own k r)) ws ew in
      omega arith

-- a direct header's place is before what it heads
pub header_small : (header : Option ℕ) (at : ℕ) (w : Way) → at + length (front w) ≤ 524288 → SmallHeader header → SmallHeader (header_of header at w)
header_small header at stop l s = s
header_small header at (past own k w) l s =
    let e : length (front (past own k w)) ≡ weight own k + length (front w) = simp length-append (omega arith) in
    header_small header (at + weight own k) w (omega arith) s
header_small header at (into own r w) l s =
    let e : length (front (into own r w)) ≡ length own + length (front w) = length-append own (front w) in
    header_small (some at) (at + length own) w (omega arith) (omega arith)

---- other own words in an element's place

module _ (dim : ℕ) (w : Way) (own own' : List ℕ) (k r : Forest) (x : Wf dim 0 0 (plug w (node own k r))) (l : length own' ≡ length own) (t : type_at own' 0 ≡ type_at own 0)
    (o : OwnTests dim (depth_of 0 w) (type_over 0 w) own' (length (flat k)) (num k)) where
  pub swapped_wf : Wf dim 0 0 (plug w (node own' k r))
  swapped_wf = wf_swap dim own k own' k r (ap (λ n. n + length (flat k)) l) 0 0 w x (o, rw t (elem_of dim own k r 0 0 w x).1)

  pub swapped : Below 65536 (flat (plug w (node own k r)) ++ marker) → Below 65536 own' → Accepted dim (flat (plug w (node own' k r)) ++ marker)
  swapped b c =
      let b₁ = rw (own_words w own k r) at b in
      let after = below_right own (behind w k r) (below_right (front w) (own ++ behind w k r) b₁) in
      record {
        tree = plug w (node own' k r);
        wf = swapped_wf;
        words = refl;
        below = rw (own_words w own' k r) (below_append 65536 (front w) (own' ++ behind w k r) (below_left (front w) (own ++ behind w k r) b₁) (below_append 65536 own' (behind w k r) c after));
      }

---- an element that the list of a file's elements has at a place

pub record There (dim : ℕ) (ws : List ℕ) (p : ℕ) : Type 0 where
  pub way : Way
  pub own : List ℕ
  pub components : Forest
  pub rest : Forest
  pub place : p ≡ length (front way)
  pub words : ws ≡ flat (plug way (node own components rest)) ++ marker
  pub wf : Wf dim 0 0 (plug way (node own components rest))

pub there : (dim : ℕ) (ws : List ℕ) (p : ℕ) → Accepted dim ws → starts_at (spots_of dim ws) p ≡ true → There dim ws p
there dim ws p a e =
    let s = starts (spot_in (spots 0 none 0 a.tree) p) (rw (tree_spots dim a.tree ws a.wf a.words) at e) in
    let g = found_in 0 none 0 a.tree p s.0 s.1 in
    let pl = g.place in
    record {
      way = g.way;
      own = g.own;
      components = g.components;
      rest = g.rest;
      place = omega arith;
      words = a.words ∙ ap (λ t. flat t ++ marker) g.tree;
      wf = subst (Wf dim 0 0) g.tree a.wf;
    }
