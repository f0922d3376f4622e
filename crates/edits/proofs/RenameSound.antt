-- Renaming a cell: the two words of its name, which the record holds and the reversal writes back.
use Prim.Native.Nat.{ℕ, ◌+◌, ◌≤◌, ◌<◌}
use native.Mathlib.Omega.{arith}
use mathlib.Core.Path.{◌≡◌, refl, sym, ap, ◌∙◌}
use mathlib.Core.Bool.{true}
use mathlib.Core.List.{List, ◌++◌}
use lib.ListN.{length}
use Rattle.words.specs.Words.{Below, word_at}
use Rattle.names.specs.Names.{name_ok}
use Rattle.kinds.specs.FirstWord.{type_of}
use Rattle.headers.specs.Header.{type_at, name_place}
use Rattle.files.specs.Spots.{spots_of}
use Rattle.grammar.proofs.Tests.{OwnTests}
use Rattle.grammar.proofs.Forest.{Forest, node, flat, num, Wf}
use Rattle.edits.specs.Edits.{rename, apply}
use Rattle.edits.specs.Allowed.{fine, or_else, unless, starts_at, rename_fault, edit_fault}
use Rattle.kinds.specs.Kinds.{is_cell, name_word}
use Rattle.kinds.proofs.Types.{name_early}
use Rattle.edits.specs.Records.{renamed, record_of, reversal}
use Rattle.edits.proofs.Accepted.{Accepted, Sound}
use Rattle.grammar.proofs.Rules.{own_two}
use Rattle.edits.proofs.Parts.{set2, length_set2, set2_in, below_left, below_right}
use Rattle.cells.proofs.Own.{cell_words}
use Rattle.edits.proofs.Fields.{named, name_in, type_named, named_back, own_named, cell_named, below_named}
use Rattle.edits.proofs.Ways.{Way, plug, front, depth_of, type_over, elem_of}
use Rattle.edits.proofs.Faults.{or_else_fine, unless_fine, fine_test, fine_both}
use Rattle.edits.proofs.Reversed.{sound_of, marker, behind, own_words, word_there, first_there, starts_there, place_small, swapped_wf, swapped, there}

-- where the name stands in the words of the file
name_there : (dim : ℕ) (w : Way) (own : List ℕ) (k r : Forest) (ws : List ℕ) (p : ℕ) → p ≡ length (front w) → ws ≡ flat (plug w (node own k r)) ++ marker →
    2 ≤ length own → name_place ws p ≡ p + name_in own
name_there dim w own k r ws p ep ew l = ap (λ v. p + name_word (type_of v)) (first_there dim w own k r ws ew p ep (omega arith))

-- the edit on the words is the edit on the element's own
pub rename_words : (dim a b : ℕ) (w : Way) (own : List ℕ) (k r : Forest) (ws : List ℕ) (p : ℕ) → p ≡ length (front w) → ws ≡ flat (plug w (node own k r)) ++ marker →
    21 ≤ length own → apply dim ws (rename p a b) ≡ flat (plug w (node (named a b own) k r)) ++ marker
unfolding apply
rename_words dim a b w own k r ws p ep ew l =
    let i = name_early (type_at own 0) in
    ap (λ q. set2 ws q a b) (name_there dim w own k r ws p ep ew (omega arith))
    ∙ rw (ew ∙ own_words w own k r, ep, own_words w (named a b own) k r) (set2_in (front w) own (behind w k r) (length (front w)) (name_in own) a b refl (omega arith))

module _ (dim a b : ℕ) (w : Way) (own : List ℕ) (k r : Forest) (ws : List ℕ) (p : ℕ) (ep : p ≡ length (front w)) (ew : ws ≡ flat (plug w (node own k r)) ++ marker)
    (x : Wf dim 0 0 (plug w (node own k r))) (bw : Below 65536 ws) (long : length ws ≤ 524288) (cell : is_cell (type_at own 0) ≡ true) (ok : name_ok a b ≡ true) (sa : a < 65536) (sb : b < 65536) where
  long_own : 21 ≤ length own
  long_own = cell_words (elem_of dim own k r 0 0 w x).0 cell

  own_below : Below 65536 own
  own_below = below_left own (behind w k r) (below_right (front w) (own ++ behind w k r) (rw (ew ∙ own_words w own k r) at bw))

  length_named : length (named a b own) ≡ length own
  length_named = length_set2 own (name_in own) a b

  own_after : OwnTests dim (depth_of 0 w) (type_over 0 w) (named a b own) (length (flat k)) (num k)
  own_after = own_named (elem_of dim own k r 0 0 w x).0 a b cell ok

  rename_wf : Wf dim 0 0 (plug w (node (named a b own) k r))
  rename_wf = swapped_wf dim w own (named a b own) k r x length_named (type_named a b own) own_after

  rename_kept : Accepted dim (flat (plug w (node (named a b own) k r)) ++ marker)
  rename_kept = swapped dim w own (named a b own) k r x length_named (type_named a b own) own_after (rw ew at bw) (below_named a b own own_below sa sb)

  -- the old words
  old_first : word_at ws (name_place ws p) ≡ word_at own (name_in own)
  old_first =
      let l = long_own in
      let i = name_early (type_at own 0) in
      ap (word_at ws) (name_there dim w own k r ws p ep ew (omega arith)) ∙ word_there dim w own k r ws ew (name_in own) p ep (omega arith)

  old_second : word_at ws (name_place ws p + 1) ≡ word_at own (name_in own + 1)
  old_second =
      let l = long_own in
      let i = name_early (type_at own 0) in
      let s : name_place ws p + 1 ≡ p + (name_in own + 1) = let e = name_there dim w own k r ws p ep ew (omega arith) in omega arith in
      ap (word_at ws) s ∙ word_there dim w own k r ws ew (name_in own + 1) p ep (omega arith)

  rename_at : Sound dim ws (rename p a b)
  unfolding record_of reversal edit_fault rename_fault
  rename_at =
      let ws' = flat (plug w (node (named a b own) k r)) ++ marker in
      let a₀ = word_at own (name_in own) in
      let b₀ = word_at own (name_in own + 1) in
      let l = long_own in
      let n = length_named in
      let type : type_at ws' p ≡ type_at own 0 = ap type_of (first_there dim w (named a b own) k r ws' refl p ep (omega arith)) ∙ type_named a b own in
      let cell' : is_cell (type_at ws' p) ≡ true = rw type cell in
      sound_of dim ws (rename p a b) ws' (renamed p a₀ b₀) (rename p a₀ b₀)
      (rename_words dim a b w own k r ws p ep ew l)
      (rw (old_first, old_second) refl)
      refl
      rename_kept
      refl
      (fine_both (fine_test 13 (starts_there dim w (named a b own) k r ws' refl rename_wf p ep)) (fine_both (fine_test 18 cell') (fine_test 12 (cell_named (elem_of dim own k r 0 0 w x).0 cell))))
      (rename_words dim a₀ b₀ w (named a b own) k r ws' p ep refl (omega arith) ∙ ap (λ o. flat (plug w (node o k r)) ++ marker) (named_back a b own) ∙ sym ew)
      (place_small dim w own k r ws ew x long p ep, (own_below (name_in own), own_below (name_in own + 1)))

pub rename_sound : (dim : ℕ) (ws : List ℕ) (p a b : ℕ) → Accepted dim ws → length ws ≤ 524288 → edit_fault dim ws (rename p a b) ≡ fine → a < 65536 → b < 65536 → Sound dim ws (rename p a b)
unfolding edit_fault rename_fault
rename_sound dim ws p a b c long e sa sb =
    let q = or_else_fine (unless (starts_at (spots_of dim ws) p) 13) (or_else (unless (is_cell (type_at ws p)) 18) (unless (name_ok a b) 12)) e in
    let t = or_else_fine (unless (is_cell (type_at ws p)) 18) (unless (name_ok a b) 12) q.1 in
    let g = there dim ws p c (unless_fine (starts_at (spots_of dim ws) p) 13 q.0) in
    let two = own_two (elem_of dim g.own g.components g.rest 0 0 g.way g.wf).0 in
    let first = first_there dim g.way g.own g.components g.rest ws g.words p g.place (omega arith) in
    rename_at dim a b g.way g.own g.components g.rest ws p g.place g.words g.wf c.below long
    (ap (λ v. is_cell (type_of v)) (sym first) ∙ unless_fine (is_cell (type_at ws p)) 18 t.0) (unless_fine (name_ok a b) 12 t.1) sa sb
