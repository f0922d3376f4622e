-- The descent on a file's bytes is the book's correction of its words: it corrects the headers on the way to the named one,
-- each where the search among its siblings stops, and the named one last.
use Prim.Native.Nat.{ℕ, zero, suc, ◌+◌, ◌-◌, ◌≤◌, ◌<◌, ◌/◌}
use native.Mathlib.Omega.{arith}
use mathlib.Core.Path.{◌≡◌, refl, sym, ap, ◌∙◌, subst}
use mathlib.Core.Bool.{Bool, true, false, cond, false≢true}
use mathlib.Core.List.{List, [], ◌∷◌, ◌++◌}
use mathlib.Core.Option.{some}
use lib.ListN.{length, length-append}
use lib.Dec.{leb, ltb}
use borrow.Author.Tests.{leb-true, le-leb}
use Rattle.words.specs.Words.{words, Below}
use Rattle.words.proofs.Laws.{length_words}
use Rattle.headers.specs.Header.{type_at, extent_at}
use Rattle.kinds.specs.Kinds.{is_header}
use Rattle.files.specs.Spots.{Spot, spots_of, spot_in}
use Rattle.grammar.proofs.Forest.{Forest, node, flat, weight, Wf, own_stands, components_stand, rest_stand}
use Rattle.grammar.proofs.Stands.{Stands}
use Rattle.grammar.proofs.Rules.{own_extent}
use Rattle.edits.specs.Edits.{around, down_to, corrected, is_last, raise}
use Rattle.edits.specs.Allowed.{fine, fault, room_fault}
use Rattle.edits.proofs.Accepted.{Accepted}
use Rattle.edits.proofs.Grown.{header_twenty}
use Rattle.edits.proofs.Ways.{Way, stop, past, into, plug, front, heads, depth_of, Room, elem_of, heads_of}
use Rattle.edits.proofs.Raised as raised
use Rattle.totals.specs.Totals.{holder_of, header_put, totals_by, totals_from, totals_put}
use Rattle.totals.specs.declared.Holder.{Holder}
use Rattle.totals.specs.declared.Holder.TheVariants.{Nowhere, Itself, Inside}
use Rattle.totals.proofs.Descent.{totals_itself, totals_inside, put_here}
use Rattle.totals.proofs.Corrected.{length_header, below_header, header_is, stands_corrected}
use Rattle.totals.proofs.Reached.{reach_itself, reach_past, reach_inside}
use Rattle.totals.proofs.Paths.{Element, element_at, element_stands, element_within, element_own, element_type, element_around, around_header, header_stands}

---- length and bytes are kept

module _ (up : Bool) (n header : ℕ) where
  length_from : (left at : ℕ) (s : List ℕ) → length (totals_from left up n header at s) ≡ length s
  unfolding totals_from
  length_from zero at s = refl
  length_from (suc left) at s = go (holder_of (words s) at header) (λ inner t. length_from left inner t)
    where
      go : (h : Holder) → ((inner : ℕ) (t : List ℕ) → length (totals_from left up n header inner t) ≡ length t) →
          length (totals_by h up n header s (λ inner t. totals_from left up n header inner t)) ≡ length s
      go Nowhere under = refl
      go Itself under = length_header up n true header s
      go (Inside q inner) under = under inner (header_put up n false q s) ∙ length_header up n false q s

  below_from : (left at : ℕ) (s : List ℕ) → Below 256 s → Below 256 (totals_from left up n header at s)
  unfolding totals_from
  below_from zero at s b = b
  below_from (suc left) at s b = go (holder_of (words s) at header) (λ inner t. below_from left inner t)
    where
      go : (h : Holder) → ((inner : ℕ) (t : List ℕ) → Below 256 t → Below 256 (totals_from left up n header inner t)) →
          Below 256 (totals_by h up n header s (λ inner t. totals_from left up n header inner t))
      go Nowhere under = b
      go Itself under = below_header up n true header s b
      go (Inside q inner) under = under inner (header_put up n false q s) (below_header up n false q s b)

  pub length_totals : (s : List ℕ) → length (totals_put up n header s) ≡ length s
  unfolding totals_put
  length_totals s = go (ltb header (length s / 2))
    where
      go : (b : Bool) → length (cond b (totals_from 9 up n header 0 s) s) ≡ length s
      go true = length_from 9 0 s
      go false = refl

  pub below_totals : (s : List ℕ) → Below 256 s → Below 256 (totals_put up n header s)
  unfolding totals_put
  below_totals s b = go (ltb header (length s / 2))
    where
      go : (t : Bool) → Below 256 (cond t (totals_from 9 up n header 0 s) s)
      go true = below_from 9 0 s b
      go false = b

  -- where the search from two places answers alike, so does the descent
  totals_alike : (s : List ℕ) (at b left : ℕ) → holder_of (words s) at header ≡ holder_of (words s) b header → totals_from left up n header at s ≡ totals_from left up n header b s
  unfolding totals_from
  totals_alike s at b zero e = refl
  totals_alike s at b (suc left) e = ap (λ h. totals_by h up n header s (λ inner t. totals_from left up n header inner t)) e

---- down a way

pub depth_least : (depth : ℕ) (w : Way) → depth ≤ depth_of depth w
depth_least depth stop = omega arith
depth_least depth (past own k w) = depth_least depth w
depth_least depth (into own r w) = let e = depth_least (suc depth) w in omega arith

not_last : (qs : List ℕ) (h : ℕ) → is_last (qs ++ (h ∷ [])) ≡ false
not_last [] h = refl
not_last (q ∷ qs) h = refl

module _ (dim : ℕ) (up : Bool) (n : ℕ) (own₀ : List ℕ) (k₀ r₀ : Forest) (h₀ : is_header (type_at own₀ 0) ≡ true) where
  totals_way : (depth under : ℕ) (w : Way) → Wf dim depth under (plug w (node own₀ k₀ r₀)) →
      (up ≡ true → Room n (node own₀ k₀ r₀) w × (weight own₀ k₀ + n ≤ 65535)) → (left at header : ℕ) (s : List ℕ) →
      depth_of depth w < depth + left → header ≡ at + length (front w) → Stands (flat (plug w (node own₀ k₀ r₀))) at (words s) →
      words (totals_from left up n header at s) ≡ raise up n (heads at w ++ (header ∷ [])) (words s)
  totals_way depth under stop x g left at header s d e t =
      let q : at ≡ header = omega arith in
      ap words (totals_itself up n header s left at (omega arith) (reach_itself (words s) at header q))
      ∙ header_is k₀ x.0 x.1 h₀ up n (λ u. (g u).1) true header s (subst (λ a. Stands own₀ a (words s)) q (own_stands own₀ k₀ r₀ t))
  totals_way depth under (past own k w) x g left at header s d e t =
      let l : length (front (past own k w)) ≡ weight own k + length (front w) = simp length-append (omega arith) in
      ap words (totals_alike up n header s at (at + weight own k) left (reach_past (words s) own at header k (node own₀ k₀ r₀) w x.0 t e))
      ∙ totals_way depth under w x.2 g left (at + weight own k) header s d (omega arith) (rest_stand own k (plug w (node own₀ k₀ r₀)) t)
  totals_way depth under (into own r w) x g left at header s d e t =
      let f = node own₀ k₀ r₀ in
      let m = depth_least (suc depth) w in
      let l : length (front (into own r w)) ≡ length own + length (front w) = length-append own (front w) in
      let h = (heads_of dim own₀ k₀ r₀ depth under (into own r w) x).0 in
      let long = header_twenty x.0 h in
      let c : words (header_put up n false at s) ≡ corrected up n false at (words s) =
      header_is (plug w f) x.0 x.1 h up n (λ u. (g u).0.0) false at s (own_stands own (plug w f) r t) in
      let qs = heads (at + length own) w ++ (header ∷ []) in
      ap words (totals_inside up n header s left at (omega arith) at (at + length own) (reach_inside (words s) own at header r w own₀ k₀ r₀ x t e))
      ∙ totals_way (suc depth) (type_at own 0) w x.1 (λ u. ((g u).0.1, (g u).1)) (left - 1) (at + length own) header (header_put up n false at s) (omega arith) (omega arith)
      (subst (Stands (flat (plug w f)) (at + length own)) (sym c)
      (stands_corrected up n false at (words s) (flat (plug w f)) (at + length own) (omega arith) (components_stand own (plug w f) r t)))
      ∙ ap (raise up n qs) c
      ∙ ap (λ b. raise up n qs (corrected up n b at (words s))) (sym (not_last (heads (at + length own) w) header))

---- the room that the book asks for is the way's

module _ (n : ℕ) (ws : List ℕ) where
  room_first : (q : ℕ) (qs : List ℕ) → room_fault n ws (q ∷ qs) ≡ fine → (extent_at ws q + n ≤ 65535) × (room_fault n ws qs ≡ fine)
  room_first q qs e = go (leb (extent_at ws q + n) 65535) refl e
    where
      go : (b : Bool) → leb (extent_at ws q + n) 65535 ≡ b → cond b (room_fault n ws qs) (fault 8 q) ≡ fine → (extent_at ws q + n ≤ 65535) × (room_fault n ws qs ≡ fine)
      go true p e = (leb-true (extent_at ws q + n) 65535 p, e)
      go false p e = let z : ◌≡◌ {A = ℕ} 0 1 = cc in absurd (omega arith)

  room_parts : (qs rs : List ℕ) → room_fault n ws (qs ++ rs) ≡ fine → (room_fault n ws qs ≡ fine) × (room_fault n ws rs ≡ fine)
  room_parts [] rs e = (refl, e)
  room_parts (q ∷ qs) rs e =
      let m = room_first q (qs ++ rs) e in
      let i = room_parts qs rs m.1 in
      (rw (le-leb (extent_at ws q + n) 65535 m.0) i.0, i.1)

module _ (dim n : ℕ) (ws : List ℕ) (header : ℕ) (x : Spot) (g : Element dim ws header x) (h : is_header (type_at ws header) ≡ true) where
  path_type : is_header (type_at g.own 0) ≡ true
  path_type = ap is_header (sym (element_type g)) ∙ h

  path_down : down_to (spots_of dim ws) (some header) ≡ heads 0 g.way ++ (header ∷ [])
  path_down = ap (λ l. l ++ (header ∷ [])) (element_around g)

  path_room : room_fault n ws (down_to (spots_of dim ws) (some header)) ≡ fine →
      Room n (node g.own g.components g.rest) g.way × (weight g.own g.components + n ≤ 65535)
  path_room e =
      let m = room_parts n ws (heads 0 g.way) (header ∷ []) (rw path_down at e) in
      let o = (elem_of dim g.own g.components g.rest 0 0 g.way g.wf).0 in
      let a = (room_first n ws header [] m.1).0 in
      let b = own_extent o (element_own g) path_type in (
        raised.room_is dim n ws 0 0 g.way (node g.own g.components g.rest) g.wf
            (heads_of dim g.own g.components g.rest 0 0 g.way g.wf) 0 (element_stands g) m.0,
        omega arith,
      )

---- the theorem

-- of a header in an accepted file: what the bytes' words become is the book's correction of the path down to it, where, for
-- more words, the headers on the path have room for them
pub totals_is : (dim : ℕ) (up : Bool) (n header : ℕ) (s : List ℕ) (x : Spot) → Accepted dim (words s) → spot_in (spots_of dim (words s)) header ≡ some x →
    is_header (type_at (words s) header) ≡ true → (up ≡ true → room_fault n (words s) (down_to (spots_of dim (words s)) (some header)) ≡ fine) →
    words (totals_put up n header s) ≡ raise up n (down_to (spots_of dim (words s)) (some header)) (words s)
totals_is dim up n header s x a e h room =
    let g = element_at dim (words s) header x a e in
    let l = length_words s in
    let i = element_within g in
    let deep = (elem_of dim g.own g.components g.rest 0 0 g.way g.wf).0.deep in
    ap words (put_here up n header s (omega arith))
    ∙ totals_way dim up n g.own g.components g.rest (path_type dim n (words s) header x g h) 0 0 g.way g.wf
    (λ u. path_room dim n (words s) header x g h (room u)) 9 0 header s (omega arith) g.place (element_stands g)
    ∙ ap (λ qs. raise up n qs (words s)) (sym (path_down dim n (words s) header x g h))

-- of an element under a header: lowering from its direct header is the book's correction of the headers around it
pub totals_around : (dim n p h : ℕ) (s : List ℕ) (x : Spot) → Accepted dim (words s) → spot_in (spots_of dim (words s)) p ≡ some x → x.header ≡ some h →
    words (totals_put false n h s) ≡ raise false n (around (spots_of dim (words s)) p) (words s)
totals_around dim n p h s x a e q =
    let y = header_stands dim (words s) p h x a e q in
    totals_is dim false n h s y.0.0 a y.0.1 y.1 (λ u. absurd (false≢true u))
    ∙ ap (λ qs. raise false n qs (words s)) (sym (around_header dim (words s) p x a e ∙ ap (down_to (spots_of dim (words s))) q))
