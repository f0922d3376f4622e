-- Removing an element with its extent, and inserting its words again where they were, under the header that they were under.
use Prim.Native.Nat.{ℕ, ◌≤◌, ◌<◌}
use native.Mathlib.Omega.{arith}
use mathlib.Core.Path.{◌≡◌, refl, sym, ap, ◌∙◌}
use mathlib.Core.Bool.{Bool, true, false}
use mathlib.Core.List.{List, ◌++◌, append_assoc}
use mathlib.Core.Option.{none}
use lib.ListN.{length, take, drop, length-append}
use lib.Seq.{take_at, drop_at}
use Rattle.words.specs.Words.{Below}
use Rattle.headers.specs.Header.{type_at}
use Rattle.kinds.specs.Kinds.{is_header}
use Rattle.files.specs.Spots.{spots_of}
use Rattle.grammar.proofs.Tests.{OwnTests, Extent}
use Rattle.grammar.proofs.Forest.{Forest, node, flat, num, weight, Wf, spots}
use Rattle.edits.specs.Edits.{insert, remove, down_to, spot_words, extent_in}
use Rattle.edits.specs.Allowed.{fine, starts_at, gap_ok, room_fault, depth_under, type_under, insert_fault, remove_fault, edit_fault}
use Rattle.edits.specs.Records.{removed, header_by, record_of, reversal}
use Rattle.edits.proofs.Accepted.{Accepted, Sound}
use Rattle.edits.proofs.Bounds.{below_append}
use Rattle.edits.proofs.Parts.{below_left, below_right}
use Rattle.edits.proofs.Ways.{Way, plug, lift, front, rear, header_of, depth_of, type_over, Heads, front_lift, header_lift, type_lift, depth_lift, Heads-lift, heads_of, elem_of, wf_down, down_up, room_of}
use Rattle.edits.proofs.Places.{inside}
use Rattle.edits.proofs.Raised.{words_of, below_lift, is_room}
use Rattle.edits.proofs.Gaps.{file_stands, file_long, above_way}
use Rattle.edits.proofs.Judging.{tree_spots, piece_fine}
use Rattle.edits.proofs.Faults.{unless_fine, fine_test, fine_both}
use Rattle.edits.proofs.Reversed.{sound_of, marker, below_marker, spot_there, place_small, header_small, there}
use Rattle.edits.proofs.InsertSound.{insert_way, remove_way}

-- an extent has at most 65,535 words
pub extent_small : {dim depth under : ℕ} {own : List ℕ} (k : Forest) → OwnTests dim depth under own (length (flat k)) (num k) → weight own k < 65536
extent_small {own = own} k o = go (is_header (type_at own 0)) o.extent
  where
    go : (b : Bool) → Extent b own (length (flat k)) (num k) → weight own k < 65536
    go true x = let l = x.1 in omega arith
    go false x = let l = x.0 in let s = o.small in omega arith

module _ (dim : ℕ) (w : Way) (own : List ℕ) (k r : Forest) (p : ℕ) (ws : List ℕ) (ep : p ≡ length (front w)) (ew : ws ≡ flat (plug w (node own k r)) ++ marker)
    (x : Wf dim 0 0 (plug w (node own k r))) (b : Below 65536 ws) (long : length ws ≤ 524288) where
  above : Heads w
  above = heads_of dim own k r 0 0 w x

  remove_wf : Wf dim 0 0 (plug (lift false (weight own k) w) r)
  remove_wf = wf_down dim own k r 0 0 w x above

  -- the words of the file around the extent
  around_extent : ws ≡ front w ++ ((own ++ flat k) ++ (flat r ++ (rear w ++ marker)))
  around_extent = ew ∙ words_of w (node own k r) marker ∙ simp append_assoc

  extent_words : take (extent_in (spots_of dim ws) p) (drop p ws) ≡ own ++ flat k
  extent_words =
      let n : extent_in (spots_of dim ws) p ≡ weight own k = ap spot_words (spot_there dim w own k r ws ew x p ep) ∙ (omega arith) in
      rw n (ap (λ v. take (weight own k) (drop p v)) around_extent
      ∙ ap (take (weight own k)) (drop_at (front w) ((own ++ flat k) ++ (flat r ++ (rear w ++ marker))) p (sym ep))
      ∙ take_at (own ++ flat k) (flat r ++ (rear w ++ marker)) (weight own k) (length-append own (flat k)))

  extent_below : Below 65536 (own ++ flat k)
  extent_below = below_left (own ++ flat k) _ (below_right (front w) _ (rw around_extent at b))

  rest_below : Below 65536 (flat r)
  rest_below = below_left (flat r) _ (below_right (own ++ flat k) _ (below_right (front w) _ (rw around_extent at b)))

  remove_kept : Accepted dim (flat (plug (lift false (weight own k) w) r) ++ marker)
  remove_kept = record {
    tree = plug (lift false (weight own k) w) r;
    wf = remove_wf;
    words = refl;
    below = below_append 65536 (flat (plug (lift false (weight own k) w) r)) marker
        (below_lift dim false (weight own k) 0 0 w (node own k r) r remove_wf above (below_left (flat (plug w (node own k r))) marker (rw ew at b)) rest_below)
        below_marker;
  }

  -- its words may go in again
  back_fine : edit_fault dim (flat (plug (lift false (weight own k) w) r) ++ marker) (insert (header_of none 0 w) p (own ++ flat k)) ≡ fine
  unfolding edit_fault insert_fault
  back_fine =
      let w' = lift false (weight own k) w in
      let ws' = flat (plug (lift false (weight own k) w) r) ++ marker in
      let h = header_of none 0 w in
      let ys = spots 0 none 0 (plug (lift false (weight own k) w) r) in
      let up = above_way dim w' r ws' remove_wf refl in
      let i' = Heads-lift false (weight own k) w above in
      let eh : header_of none 0 w' ≡ h = header_lift false (weight own k) none 0 w in
      let gap : gap_ok ys ws' h p ≡ true = rw (← eh, ep, ← front_lift false (weight own k) w) (up.gap i') in
      let depth : depth_under ys h ≡ depth_of 0 w = rw (← eh) up.depth ∙ depth_lift false (weight own k) 0 w in
      let type : type_under ws' h ≡ type_over 0 w = rw (← eh) up.type ∙ type_lift false (weight own k) 0 w in
      let room : room_fault (length (own ++ flat k)) ws' (down_to ys h) ≡ fine =
      rw (length-append own (flat k), ← eh, up.down) (is_room dim (weight own k) ws' 0 0 w' r remove_wf i' 0 (file_stands (plug w' r) ws' refl) (room_of dim own k r 0 0 w x above)) in
      rw (tree_spots dim (plug w' r) ws' remove_wf refl)
      (fine_both (fine_test 13 gap) (fine_both (piece_fine dim (depth_of 0 w) (type_over 0 w) ys ws' h own k depth type (elem_of dim own k r 0 0 w x)) room))

  remove_at : Sound dim ws (remove p)
  unfolding record_of reversal
  remove_at =
      let w' = lift false (weight own k) w in
      let ws' = flat (plug (lift false (weight own k) w) r) ++ marker in
      let h = header_of none 0 w in
      let e = (elem_of dim own k r 0 0 w x).0 in
      let n = file_long (plug w (node own k r)) ws ew in
      let i = inside dim own k r 0 0 w x in
      let s = extent_small k e in
      let l = length-append own (flat k) in
      sound_of dim ws (remove p) ws' (removed h p (own ++ flat k)) (insert h p (own ++ flat k))
      (remove_way dim w own k r p ws ep ew x)
      (ap (λ o. removed (header_by o) p (take (extent_in (spots_of dim ws) p) (drop p ws))) (spot_there dim w own k r ws ew x p ep) ∙ ap (removed h p) extent_words)
      refl
      remove_kept
      refl
      back_fine
      (insert_way dim w' r own k h p ws' (ep ∙ sym (front_lift false (weight own k) w)) refl remove_wf (Heads-lift false (weight own k) w above) (header_lift false (weight own k) none 0 w)
      ∙ ap (λ v. flat (plug v (node own k r)) ++ marker) (down_up dim own k r 0 0 w x above) ∙ sym ew)
      (header_small none 0 w (omega arith) tt, (place_small dim w own k r ws ew x long p ep, (omega arith, extent_below)))

pub remove_sound : (dim : ℕ) (ws : List ℕ) (p : ℕ) → Accepted dim ws → length ws ≤ 524288 → edit_fault dim ws (remove p) ≡ fine → Sound dim ws (remove p)
unfolding edit_fault remove_fault
remove_sound dim ws p a long e =
    let g = there dim ws p a (unless_fine (starts_at (spots_of dim ws) p) 13 e) in
    remove_at dim g.way g.own g.components g.rest p ws g.place g.words g.wf a.below long
