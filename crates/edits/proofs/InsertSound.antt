-- Inserting a piece, and removing it again: the words of a tree with an element more, and those of the tree as it was.
use Prim.Native.Nat.{ℕ, ◌+◌, ◌≤◌}
use native.Mathlib.Omega.{arith}
use mathlib.Core.Path.{◌≡◌, refl, sym, ap, ◌∙◌, subst}
use mathlib.Core.Bool.{true, false}
use mathlib.Core.List.{List, ◌++◌}
use mathlib.Core.Option.{Option, none}
use lib.ListN.{length, length-append}
use Rattle.words.specs.Words.{Below}
use Rattle.files.specs.Spots.{spots_of, spot_in}
use Rattle.grammar.proofs.Forest.{Forest, node, flat, weight, Wf, spots}
use Rattle.edits.specs.Edits.{insert, remove, around, down_to, spot_words, extent_in, raise, splice, cut, apply}
use Rattle.edits.specs.Allowed.{fine, or_else, unless, is_under, gap_ok, piece_fault, room_fault, insert_fault, remove_fault, edit_fault}
use Rattle.edits.specs.Records.{inserted, record_of, reversal}
use Rattle.edits.proofs.Accepted.{Accepted, SmallHeader, Sound}
use Rattle.edits.proofs.Bounds.{below_append}
use Rattle.edits.proofs.Parts.{below_left, below_right}
use Rattle.edits.proofs.Ways.{Way, plug, lift, front, rear, heads, header_of, depth_of, type_over, Heads, Room, Elem, front_lift, header_lift, flat_plug, heads_of, wf_up, up_down}
use Rattle.edits.proofs.Places.{around_way}
use Rattle.edits.proofs.Raised.{long_of, insert_words, remove_words, below_lift, room_is}
use Rattle.edits.proofs.Gaps.{header_same, file_stands, file_long, gap_found, above_way}
use Rattle.edits.proofs.Judging.{tree_spots, piece_found}
use Rattle.edits.proofs.Faults.{or_else_fine, unless_fine, fine_test}
use Rattle.edits.proofs.Reversed.{sound_of, marker, below_marker, spot_there, starts_there, header_small}

-- taking out the element that a way leads to
pub remove_way : (dim : ℕ) (w : Way) (own : List ℕ) (k r : Forest) (p : ℕ) (ws : List ℕ) → p ≡ length (front w) → ws ≡ flat (plug w (node own k r)) ++ marker →
    Wf dim 0 0 (plug w (node own k r)) → apply dim ws (remove p) ≡ flat (plug (lift false (weight own k) w) r) ++ marker
unfolding apply
remove_way dim w own k r p ws ep ew x =
    let xs = spots_of dim ws in
    let n : extent_in xs p ≡ weight own k = ap spot_words (spot_there dim w own k r ws ew x p ep) ∙ (omega arith) in
    let qs : around xs p ≡ heads 0 w =
    ap (λ ys. around ys p) (tree_spots dim (plug w (node own k r)) ws x ew) ∙ around_way dim own k r 0 0 none w x 0 p (omega arith) in
    let l = long_of dim 0 0 w (node own k r) x (heads_of dim own k r 0 0 w x) in
    ap (λ m. cut p m (raise false m (around xs p) ws)) n
    ∙ ap (λ l. cut p (weight own k) (raise false (weight own k) l ws)) qs
    ∙ ap (λ v. cut p (weight own k) (raise false (weight own k) (heads 0 w) v)) ew
    ∙ ap (λ m. cut m (weight own k) (raise false (weight own k) (heads 0 w) (flat (plug w (node own k r)) ++ marker))) ep
    ∙ remove_words w r own k marker l

-- putting one in where a way leads to
pub insert_way : (dim : ℕ) (w : Way) (f : Forest) (own : List ℕ) (k : Forest) (h : Option ℕ) (p : ℕ) (ws : List ℕ) → p ≡ length (front w) → ws ≡ flat (plug w f) ++ marker →
    Wf dim 0 0 (plug w f) → Heads w → header_of none 0 w ≡ h →
    apply dim ws (insert h p (own ++ flat k)) ≡ flat (plug (lift true (weight own k) w) (node own k f)) ++ marker
unfolding apply
insert_way dim w f own k h p ws ep ew y i eh =
    let x = own ++ flat k in
    let qs : down_to (spots_of dim ws) h ≡ heads 0 w =
    ap (λ ys. down_to ys h) (tree_spots dim (plug w f) ws y ew) ∙ ap (down_to (spots 0 none 0 (plug w f))) (sym eh) ∙ (above_way dim w f ws y ew).down in
    ap (λ l. splice p x (raise true (length x) l ws)) qs
    ∙ ap (λ v. splice p x (raise true (length x) (heads 0 w) v)) ew
    ∙ ap (λ m. splice m x (raise true (length x) (heads 0 w) (flat (plug w f) ++ marker))) ep
    ∙ insert_words w f own k marker (long_of dim 0 0 w f y i)

module _ (dim : ℕ) (w : Way) (f : Forest) (own : List ℕ) (k : Forest) (h : Option ℕ) (p : ℕ) (ws : List ℕ) (ep : p ≡ length (front w)) (ew : ws ≡ flat (plug w f) ++ marker)
    (y : Wf dim 0 0 (plug w f)) (i : Heads w) (eh : header_of none 0 w ≡ h) (e : Elem dim (depth_of 0 w) (type_over 0 w) own k) (m : Room (weight own k) f w)
    (b : Below 65536 ws) (c : Below 65536 (own ++ flat k)) (long : length ws ≤ 524288) where
  insert_wf : Wf dim 0 0 (plug (lift true (weight own k) w) (node own k f))
  insert_wf = wf_up dim own k f 0 0 w y i e m

  -- the words of the list's rest
  rest_below : Below 65536 (flat f)
  rest_below = below_left (flat f) _ (below_right (front w) _ (rw (flat_plug w f) at (below_left (flat (plug w f)) marker (rw ew at b))))

  insert_kept : Accepted dim (flat (plug (lift true (weight own k) w) (node own k f)) ++ marker)
  insert_kept = record {
    tree = plug (lift true (weight own k) w) (node own k f);
    wf = insert_wf;
    words = refl;
    below = below_append 65536 (flat (plug (lift true (weight own k) w) (node own k f))) marker
        (below_lift dim true (weight own k) 0 0 w f (node own k f) insert_wf i (below_left (flat (plug w f)) marker (rw ew at b))
        (below_append 65536 own (flat k ++ flat f) (below_left own (flat k) c) (below_append 65536 (flat k) (flat f) (below_right own (flat k) c) rest_below)))
        below_marker;
  }

  insert_at : Sound dim ws (insert h p (own ++ flat k))
  unfolding record_of reversal edit_fault remove_fault
  insert_at =
      let w' = lift true (weight own k) w in
      let ws' = flat (plug (lift true (weight own k) w) (node own k f)) ++ marker in
      let ep' : p ≡ length (front w') = ep ∙ sym (front_lift true (weight own k) w) in
      let eh' : header_of none 0 w' ≡ h = header_lift true (weight own k) none 0 w ∙ eh in
      let under : is_under (spot_in (spots_of dim ws') p) h ≡ true = rw (spot_there dim w' own k f ws' refl insert_wf p ep', eh') (header_same h) in
      let n = file_long (plug w f) ws ew in
      let q : length (flat (plug w f)) ≡ length (front w) + (length (flat f) + length (rear w)) = rw (flat_plug w f) (simp length-append refl) in
      sound_of dim ws (insert h p (own ++ flat k)) ws' (inserted h p) (remove p)
      (insert_way dim w f own k h p ws ep ew y i eh)
      refl
      refl
      insert_kept
      under
      (fine_test 13 (starts_there dim w' own k f ws' refl insert_wf p ep'))
      (remove_way dim w' own k f p ws' ep' refl insert_wf ∙ ap (λ v. flat (plug v f) ++ marker) (up_down dim own k f 0 0 w y i) ∙ sym ew)
      (subst SmallHeader eh (header_small none 0 w (omega arith) tt), omega arith)

pub insert_sound : (dim : ℕ) (ws : List ℕ) (h : Option ℕ) (p : ℕ) (x : List ℕ) → Accepted dim ws → length ws ≤ 524288 → edit_fault dim ws (insert h p x) ≡ fine → Below 65536 x →
    Sound dim ws (insert h p x)
unfolding edit_fault insert_fault
insert_sound dim ws h p x a long e b =
    let xs = spots_of dim ws in
    let q = or_else_fine (unless (gap_ok xs ws h p) 13) (or_else (piece_fault dim xs ws h x) (room_fault (length x) ws (down_to xs h))) e in
    let t = or_else_fine (piece_fault dim xs ws h x) (room_fault (length x) ws (down_to xs h)) q.1 in
    let same = tree_spots dim a.tree ws a.wf a.words in
    let g = gap_found dim a.tree a.wf ws a.words h p (subst (λ ys. gap_ok ys ws h p ≡ true) same (unless_fine (gap_ok xs ws h p) 13 q.0)) in
    at g.way g.rest g.place (a.words ∙ ap (λ f. flat f ++ marker) g.tree) (subst (Wf dim 0 0) g.tree a.wf) g.above g.header
    (same ∙ ap (spots 0 none 0) g.tree) t.0 t.1
  where
    at : (w : Way) (f : Forest) → p ≡ length (front w) → ws ≡ flat (plug w f) ++ marker → Wf dim 0 0 (plug w f) → Heads w → header_of none 0 w ≡ h →
        spots_of dim ws ≡ spots 0 none 0 (plug w f) → piece_fault dim (spots_of dim ws) ws h x ≡ fine → room_fault (length x) ws (down_to (spots_of dim ws) h) ≡ fine → Sound dim ws (insert h p x)
    at w f ep ew y i eh xs pf rf =
        let up = above_way dim w f ws y ew in
        let pc = piece_found dim (depth_of 0 w) (type_over 0 w) (spots_of dim ws) ws h x (rw (xs, ← eh) up.depth) (rw (← eh) up.type) pf in
        let down : down_to (spots_of dim ws) h ≡ heads 0 w = rw (xs, ← eh) up.down in
        let n : length x ≡ weight pc.own pc.components = ap length pc.words ∙ length-append pc.own (flat pc.components) in
        let room = room_is dim (length x) ws 0 0 w f y i 0 (file_stands (plug w f) ws ew) (subst (λ l. room_fault (length x) ws l ≡ fine) down rf) in
        subst (λ v. Sound dim ws (insert h p v)) (sym pc.words)
        (insert_at dim w f pc.own pc.components h p ws ep ew y i eh pc.elem (subst (λ m. Room m f w) n room) a.below (subst (Below 65536) pc.words b) long)
