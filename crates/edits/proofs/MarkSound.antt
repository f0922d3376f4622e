-- Deleted flags written in a whole extent, by a mark or by a restore: the file stays accepted, and the record's old flags
-- may be written back and give the old words.
use Prim.Native.Nat.{ℕ, suc, ◌+◌, ◌-◌, ◌≤◌, ◌<◌}
use native.Mathlib.Omega.{arith}
use mathlib.Core.Path.{◌≡◌, refl, sym, ap, ◌∙◌}
use mathlib.Core.Bool.{Bool, true}
use mathlib.Core.List.{List, [], ◌∷◌, ◌++◌, append_assoc}
use mathlib.Core.Option.{Option, none, some}
use lib.ListN.{length, take, replicate, length-append}
use Rattle.words.specs.Words.{Below, word_at}
use Rattle.headers.specs.Header.{type_at}
use Rattle.files.specs.Spots.{spots_of}
use Rattle.grammar.proofs.Forest.{Forest, node, flat, weight, Wf, spots}
use Rattle.grammar.proofs.Rules.{own_two}
use Rattle.edits.specs.Bits.{word_flags, flags_ok}
use Rattle.edits.specs.Edits.{Edit, mark, restore, extent_in, places_from, extent_places, spot_words, flags_at, with_flags, apply}
use Rattle.edits.specs.Allowed.{fine, unless, starts_at, flag_differs, mark_fault, restore_fault, edit_fault}
use Rattle.edits.specs.Records.{flag, old_flags, record_of, reversal}
use Rattle.edits.proofs.Accepted.{Accepted, Sound}
use Rattle.edits.proofs.Fields.{marked, length_marked, type_marked}
use Rattle.edits.proofs.Packed.{length_packed, below_packed, packed_back, packed_ok}
use Rattle.edits.proofs.Flags.{with_taken, length_flags, below_flags, flags_back}
use Rattle.edits.proofs.Ways.{Way, stop, past, into, plug, front, rear, depth_of, type_over, Elem, elem_of, len_swap, wf_swap}
use Rattle.edits.proofs.Extents.{starts, length_starts, number_long, places_way, reflag, reflag_long, reflag_spots, own_reflag, reflag_wf, first_words, reflag_words}
use Rattle.edits.proofs.Faults.{or_else_fine, unless_fine, fine_test, fine_both}
use Rattle.edits.proofs.Judging.{tree_spots}
use Rattle.edits.proofs.Reversed.{sound_of, marker, own_words, spot_there, starts_there, place_small, there}
use Rattle.edits.proofs.RemoveSound.{extent_small}

-- the elements of the extent that a way leads to
pub extent_there : (dim : ℕ) (w : Way) (own : List ℕ) (k r : Forest) (ws : List ℕ) (p : ℕ) → p ≡ length (front w) → ws ≡ flat (plug w (node own k r)) ++ marker →
    Wf dim 0 0 (plug w (node own k r)) → extent_places (spots_of dim ws) p ≡ p ∷ starts (p + length own) k
unfolding extent_places
extent_there dim w own k r ws p ep ew x =
    ap (λ o. places_from (spots_of dim ws) p (p + spot_words o)) (spot_there dim w own k r ws ew x p ep)
    ∙ ap (λ xs. places_from xs p (p + (p + weight own k - p))) (tree_spots dim (plug w (node own k r)) ws x ew)
    ∙ places_way dim own k r 0 0 none w x 0 p (p + (p + weight own k - p)) (omega arith) (omega arith)

-- the element with the flags of a list, and those under it
abbrev own_flagged : List Bool → List ℕ → List ℕ
own_flagged [] own = own
own_flagged (b ∷ bs) own = marked b own

abbrev under : List Bool → Forest → Forest
under [] k = k
under (b ∷ bs) k = reflag bs k

length_own : (bs : List Bool) (own : List ℕ) → length (own_flagged bs own) ≡ length own
length_own [] own = refl
length_own (b ∷ bs) own = length_marked b own

weight_same : (bs : List Bool) (own : List ℕ) (k : Forest) → weight (own_flagged bs own) (under bs k) ≡ weight own k
weight_same [] own k = refl
weight_same (b ∷ bs) own k = rw (length_marked b own, reflag_long bs k) refl

elem_flagged : (dim depth above : ℕ) (bs : List Bool) (own : List ℕ) (k : Forest) → Elem dim depth above own k → Elem dim depth above (own_flagged bs own) (under bs k)
elem_flagged dim depth above [] own k e = e
elem_flagged dim depth above (b ∷ bs) own k e =
    (own_reflag b bs k e.0, rw (type_marked b own (own_two e.0)) (reflag_wf dim (suc depth) (type_at own 0) bs k e.1))

-- the words of the element and those under it, between others
extent_words : (dim depth above : ℕ) (bs : List Bool) (own : List ℕ) (k : Forest) (pre post : List ℕ) (p : ℕ) → Elem dim depth above own k → length pre ≡ p →
    with_flags (p ∷ starts (p + length own) k) bs (pre ++ (own ++ (flat k ++ post))) ≡ pre ++ (own_flagged bs own ++ (flat (under bs k) ++ post))
extent_words dim depth above [] own k pre post p e l = refl
extent_words dim depth above (b ∷ bs) own k pre post p e l =
    let m = length_marked b own in
    first_words pre own (flat k ++ post) p b bs (starts (p + length own) k) l (own_two e.0)
    ∙ reflag_words dim (suc depth) (type_at own 0) k bs (pre ++ marked b own) post (p + length own) e.1 (length-append pre (marked b own) ∙ (omega arith))
    ∙ append_assoc pre (marked b own) (flat (reflag bs k) ++ post)

-- the same list of elements, in the tree around it too
spots_same : (bs : List Bool) (depth : ℕ) (header : Option ℕ) (at : ℕ) (k : Forest) → spots depth header at (under bs k) ≡ spots depth header at k
spots_same [] depth header at k = refl
spots_same (b ∷ bs) depth header at k = reflag_spots bs depth header at k

plug_spots : (dim : ℕ) (bs : List Bool) (own : List ℕ) (k r : Forest) (w : Way) (depth : ℕ) (header : Option ℕ) (at : ℕ) →
    spots depth header at (plug w (node (own_flagged bs own) (under bs k) r)) ≡ spots depth header at (plug w (node own k r))
plug_spots dim bs own k r stop depth header at = rw (weight_same bs own k, length_own bs own, spots_same bs (suc depth) (some at) (at + length own) k) refl
plug_spots dim bs own k r (past o c w) depth header at = rw (plug_spots dim bs own k r w depth header (at + weight o c)) refl
plug_spots dim bs own k r (into o c w) depth header at =
    rw (len_swap dim own k (own_flagged bs own) (under bs k) r (weight_same bs own k) w, plug_spots dim bs own k r w (suc depth) (some at) (at + length o)) refl

-- the words of a file, with the components apart
apart : (w : Way) (own : List ℕ) (k r : Forest) → flat (plug w (node own k r)) ++ marker ≡ front w ++ (own ++ (flat k ++ (flat r ++ (rear w ++ marker))))
apart w own k r = own_words w own k r ∙ ap (λ l. front w ++ (own ++ l)) (append_assoc (flat k) (flat r) (rear w ++ marker))

module _ (dim : ℕ) (bs : List Bool) (w : Way) (own : List ℕ) (k r : Forest) (ws : List ℕ) (p : ℕ) (ep : p ≡ length (front w)) (ew : ws ≡ flat (plug w (node own k r)) ++ marker)
    (x : Wf dim 0 0 (plug w (node own k r))) where
  elem : Elem dim (depth_of 0 w) (type_over 0 w) own k
  elem = elem_of dim own k r 0 0 w x

  abbrev places : List ℕ
  places = p ∷ starts (p + length own) k

  abbrev after : List ℕ
  after = with_flags places bs ws

  after_words : after ≡ flat (plug w (node (own_flagged bs own) (under bs k) r)) ++ marker
  after_words =
      ap (with_flags places bs) (ew ∙ apart w own k r)
      ∙ extent_words dim (depth_of 0 w) (type_over 0 w) bs own k (front w) (flat r ++ (rear w ++ marker)) p elem (sym ep)
      ∙ sym (apart w (own_flagged bs own) (under bs k) r)

  after_wf : Wf dim 0 0 (plug w (node (own_flagged bs own) (under bs k) r))
  after_wf = wf_swap dim own k (own_flagged bs own) (under bs k) r (weight_same bs own k) 0 0 w x (elem_flagged dim (depth_of 0 w) (type_over 0 w) bs own k elem)

  after_kept : Below 65536 ws → Accepted dim after
  after_kept b = record { tree = plug w (node (own_flagged bs own) (under bs k) r); wf = after_wf; words = after_words; below = below_flags places bs ws b }

  before_places : extent_places (spots_of dim ws) p ≡ places
  before_places = extent_there dim w own k r ws p ep ew x

  -- the file has the same elements after it
  after_spots : spots_of dim after ≡ spots_of dim ws
  after_spots =
      tree_spots dim (plug w (node (own_flagged bs own) (under bs k) r)) after after_wf after_words ∙ plug_spots dim bs own k r w 0 none 0
      ∙ sym (tree_spots dim (plug w (node own k r)) ws x ew)

  after_places : extent_places (spots_of dim after) p ≡ places
  after_places = ap (λ xs. extent_places xs p) after_spots ∙ before_places

  abbrev old : List ℕ
  old = old_flags places ws

  old_small : length old < 65536
  old_small =
      let a = length_packed (flags_at places ws) in
      let c = length_flags places ws in
      let n = length_starts (p + length own) k in
      let m = number_long dim (suc (depth_of 0 w)) (type_at own 0) k elem.1 in
      let s = extent_small k elem.0 in
      omega arith

  old_some : 1 ≤ length old
  old_some =
      let a = length_packed (flags_at places ws) in
      let c = length_flags places ws in
      omega arith

  back_fine : edit_fault dim after (restore p old) ≡ fine
  unfolding edit_fault restore_fault
  back_fine =
      fine_both (fine_test 13 (starts_there dim w (own_flagged bs own) (under bs k) r after after_words after_wf p ep))
      (fine_test 19 (ap (λ qs. flags_ok (length qs) old) after_places ∙ ap (λ n. flags_ok n old) (sym (length_flags places ws)) ∙ packed_ok (flags_at places ws)))

  back_words : Below 65536 ws → apply dim after (restore p old) ≡ ws
  unfolding apply
  back_words b =
      ap (λ qs. with_flags qs (word_flags old) after) after_places
      ∙ with_taken places (word_flags old) after
      ∙ ap (λ n. with_flags places (take n (word_flags old)) after) (sym (length_flags places ws))
      ∙ ap (λ l. with_flags places l after) (packed_back (flags_at places ws))
      ∙ flags_back places bs ws b

  flags_at_lem : Below 65536 ws → length ws ≤ 524288 → (e : Edit) → apply dim ws e ≡ with_flags (extent_places (spots_of dim ws) p) bs ws → record_of dim ws e ≡ flag p (old_flags (extent_places (spots_of dim ws) p) ws) → Sound dim ws e
  unfolding reversal
  flags_at_lem b long e a q =
      sound_of dim ws e after (flag p old) (restore p old)
      (a ∙ ap (λ qs. with_flags qs bs ws) before_places)
      (q ∙ ap (λ qs. flag p (old_flags qs ws)) before_places)
      refl
      (after_kept b)
      refl
      back_fine
      (back_words b)
      (place_small dim w own k r ws ew x long p ep, (old_small, (below_packed (flags_at places ws), old_some)))

-- flags written in the extent at a place
flags_sound : (dim : ℕ) (ws : List ℕ) (p : ℕ) (bs : List Bool) (e : Edit) → Accepted dim ws → length ws ≤ 524288 → starts_at (spots_of dim ws) p ≡ true →
    apply dim ws e ≡ with_flags (extent_places (spots_of dim ws) p) bs ws → record_of dim ws e ≡ flag p (old_flags (extent_places (spots_of dim ws) p) ws) → Sound dim ws e
flags_sound dim ws p bs e a long s =
    let g = there dim ws p a s in
    flags_at_lem dim bs g.way g.own g.components g.rest ws p g.place g.words g.wf a.below long e

-- and the same elements, so the same places, depths, headers and extents
pub flags_spots : (dim : ℕ) (ws : List ℕ) (p : ℕ) (bs : List Bool) → Accepted dim ws → starts_at (spots_of dim ws) p ≡ true →
    spots_of dim (with_flags (extent_places (spots_of dim ws) p) bs ws) ≡ spots_of dim ws
flags_spots dim ws p bs a s =
    let g = there dim ws p a s in
    ap (λ qs. spots_of dim (with_flags qs bs ws)) (extent_there dim g.way g.own g.components g.rest ws p g.place g.words g.wf)
    ∙ after_spots dim bs g.way g.own g.components g.rest ws p g.place g.words g.wf

-- the extent ends by the file's end
pub extent_within : (dim : ℕ) (ws : List ℕ) (p : ℕ) → Accepted dim ws → starts_at (spots_of dim ws) p ≡ true → p + extent_in (spots_of dim ws) p ≤ length ws
extent_within dim ws p a s =
    let g = there dim ws p a s in
    let w = g.way in
    let own = g.own in
    let k = g.components in
    let r = g.rest in
    let long : length ws ≡ length (front w) + (length own + (length (flat k) + length (flat r ++ (rear w ++ marker)))) = ap length (g.words ∙ apart w own k r) ∙ simp length-append in
    let e : extent_in (spots_of dim ws) p ≡ weight own k = ap spot_words (spot_there dim w own k r ws g.words g.wf p g.place) ∙ (omega arith) in
    let q = g.place in
    omega arith

-- a mark's record gives the words back, whatever flags stand in the extent then
pub flags_return : (dim : ℕ) (ws : List ℕ) (p : ℕ) (bs : List Bool) → Accepted dim ws → starts_at (spots_of dim ws) p ≡ true →
    (edit_fault dim (with_flags (extent_places (spots_of dim ws) p) bs ws) (restore p (old_flags (extent_places (spots_of dim ws) p) ws)) ≡ fine)
    × (apply dim (with_flags (extent_places (spots_of dim ws) p) bs ws) (restore p (old_flags (extent_places (spots_of dim ws) p) ws)) ≡ ws)
flags_return dim ws p bs a s =
    let g = there dim ws p a s in
    let w = g.way in
    let own = g.own in
    let k = g.components in
    let r = g.rest in
    rw (before_places dim bs w own k r ws p g.place g.words g.wf)
    (back_fine dim bs w own k r ws p g.place g.words g.wf, back_words dim bs w own k r ws p g.place g.words g.wf a.below)

pub mark_sound : (dim : ℕ) (ws : List ℕ) (p : ℕ) (d : Bool) → Accepted dim ws → length ws ≤ 524288 → edit_fault dim ws (mark p d) ≡ fine → Sound dim ws (mark p d)
unfolding edit_fault mark_fault apply record_of
mark_sound dim ws p d a long e =
    let q = or_else_fine (unless (starts_at (spots_of dim ws) p) 13) (unless (flag_differs d (word_at ws p)) 14) e in
    flags_sound dim ws p (replicate (length (extent_places (spots_of dim ws) p)) d) (mark p d) a long (unless_fine (starts_at (spots_of dim ws) p) 13 q.0) refl refl

pub restore_sound : (dim : ℕ) (ws : List ℕ) (p : ℕ) (x : List ℕ) → Accepted dim ws → length ws ≤ 524288 → edit_fault dim ws (restore p x) ≡ fine → Sound dim ws (restore p x)
unfolding edit_fault restore_fault apply record_of
restore_sound dim ws p x a long e =
    let q = or_else_fine (unless (starts_at (spots_of dim ws) p) 13) (unless (flags_ok (length (extent_places (spots_of dim ws) p)) x) 19) e in
    flags_sound dim ws p (word_flags x) (restore p x) a long (unless_fine (starts_at (spots_of dim ws) p) 13 q.0) refl refl
