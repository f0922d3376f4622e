-- The number of cells after an insert, a remove and a rename, each by the tree of the words after it.
use Prim.Native.Nat.{ℕ, ◌+◌, ◌-◌}
use mathlib.Core.Path.{◌≡◌, refl, sym, ap, ◌∙◌, subst}
use mathlib.Core.Bool.{Bool, true, false}
use mathlib.Core.List.{List, ◌++◌, append_assoc}
use mathlib.Core.Option.{Option, none}
use native.Mathlib.Omega.{arith}
use lib.ListN.{length, length-append}
use Rattle.words.specs.Words.{word_at}
use Rattle.names.specs.Names.{name_ok}
use Rattle.kinds.specs.FirstWord.{type_of}
use Rattle.kinds.specs.Kinds.{is_cell}
use Rattle.headers.specs.Header.{type_at}
use Rattle.files.specs.Spots.{spots_of, spot_in}
use Rattle.grammar.proofs.Forest.{Forest, nil, node, flat, weight, Wf, spots, length_node}
use Rattle.grammar.proofs.Rules.{own_two}
use Rattle.grammar.proofs.Stands.{Stands, stands_left}
use Rattle.edits.specs.Edits.{rename, insert, remove, apply, down_to, spot_words}
use Rattle.edits.specs.Allowed.{fine, or_else, unless, starts_at, gap_ok, piece_fault, room_fault, rename_fault, insert_fault, remove_fault, edit_fault}
use Rattle.edits.proofs.Accepted.{Accepted}
use Rattle.edits.proofs.Faults.{or_else_fine, unless_fine}
use Rattle.edits.proofs.Fields.{name_in, named, type_named, own_named}
use Rattle.edits.proofs.Parts.{length_set2}
use Rattle.edits.proofs.Gaps.{file_stands, file_long, gap_found, above_way}
use Rattle.edits.proofs.InsertSound.{insert_way, remove_way}
use Rattle.edits.proofs.RenameSound.{rename_words}
use Rattle.edits.proofs.Judging.{tree_spots, piece_found}
use Rattle.edits.proofs.Raised.{room_is, stands_way}
use Rattle.edits.proofs.Reversed.{marker, spot_there, first_there, swapped_wf, there}
use Rattle.edits.proofs.Ways.{Way, plug, lift, front, rear, heads, header_of, depth_of, type_over, Heads, Room, Elem, flat_plug, heads_of, elem_of, wf_up, wf_down}
use Rattle.cells.specs.Cells.{cells_of, cells_within}
use Rattle.cells.proofs.Own.{cell_words}
use Rattle.cells.proofs.Trees.{between_cells}
use Rattle.cell_edits.specs.After.{cells_under}
use Rattle.cell_edits.proofs.Trees.{number, tree_number, beside, plug_number, lift_number, file_number, alone_wf, alone_words, piece_number}

---- insert

module _ (dim : ℕ) (w : Way) (f : Forest) (own : List ℕ) (k : Forest) (h : Option ℕ) (p : ℕ) (ws : List ℕ) (ep : p ≡ length (front w)) (ew : ws ≡ flat (plug w f) ++ marker)
    (y : Wf dim 0 0 (plug w f)) (i : Heads w) (eh : header_of none 0 w ≡ h) (e : Elem dim (depth_of 0 w) (type_over 0 w) own k) (m : Room (weight own k) f w) where
  insert_at : length (cells_of dim (apply dim ws (insert h p (own ++ flat k)))) ≡ length (cells_of dim ws) + length (cells_within (own ++ flat k))
  insert_at =
      let n = weight own k in
      let after = file_number dim (plug (lift true n w) (node own k f)) _ (wf_up dim own k f 0 0 w y i e m) (insert_way dim w f own k h p ws ep ew y i eh) in
      let now = file_number dim (plug w f) ws y ew in
      let a = plug_number (lift true n w) (node own k f) in
      let b = plug_number w f in
      let c = lift_number true n w in
      let d = piece_number dim (depth_of 0 w) (type_over 0 w) own k e in
      omega arith

pub insert_number : (dim : ℕ) (ws : List ℕ) (h : Option ℕ) (p : ℕ) (x : List ℕ) → Accepted dim ws → edit_fault dim ws (insert h p x) ≡ fine →
    length (cells_of dim (apply dim ws (insert h p x))) ≡ length (cells_of dim ws) + length (cells_within x)
unfolding edit_fault insert_fault
insert_number dim ws h p x a e =
    let xs = spots_of dim ws in
    let q = or_else_fine (unless (gap_ok xs ws h p) 13) (or_else (piece_fault dim xs ws h x) (room_fault (length x) ws (down_to xs h))) e in
    let t = or_else_fine (piece_fault dim xs ws h x) (room_fault (length x) ws (down_to xs h)) q.1 in
    let same = tree_spots dim a.tree ws a.wf a.words in
    let g = gap_found dim a.tree a.wf ws a.words h p (subst (λ ys. gap_ok ys ws h p ≡ true) same (unless_fine (gap_ok xs ws h p) 13 q.0)) in
    at g.way g.rest g.place (a.words ∙ ap (λ f. flat f ++ marker) g.tree) (subst (Wf dim 0 0) g.tree a.wf) g.above g.header
    (same ∙ ap (spots 0 none 0) g.tree) t.0 t.1
  where
    at : (w : Way) (f : Forest) → p ≡ length (front w) → ws ≡ flat (plug w f) ++ marker → Wf dim 0 0 (plug w f) → Heads w → header_of none 0 w ≡ h →
        spots_of dim ws ≡ spots 0 none 0 (plug w f) → piece_fault dim (spots_of dim ws) ws h x ≡ fine → room_fault (length x) ws (down_to (spots_of dim ws) h) ≡ fine →
        length (cells_of dim (apply dim ws (insert h p x))) ≡ length (cells_of dim ws) + length (cells_within x)
    at w f ep ew y i eh xs pf rf =
        let up = above_way dim w f ws y ew in
        let pc = piece_found dim (depth_of 0 w) (type_over 0 w) (spots_of dim ws) ws h x (rw (xs, ← eh) up.depth) (rw (← eh) up.type) pf in
        let down : down_to (spots_of dim ws) h ≡ heads 0 w = rw (xs, ← eh) up.down in
        let n : length x ≡ weight pc.own pc.components = ap length pc.words ∙ length-append pc.own (flat pc.components) in
        let room = room_is dim (length x) ws 0 0 w f y i 0 (file_stands (plug w f) ws ew) (subst (λ l. room_fault (length x) ws l ≡ fine) down rf) in
        subst (λ v. length (cells_of dim (apply dim ws (insert h p v))) ≡ length (cells_of dim ws) + length (cells_within v)) (sym pc.words)
        (insert_at dim w f pc.own pc.components h p ws ep ew y i eh pc.elem (subst (λ m. Room m f w) n room))

---- remove

module _ (dim : ℕ) (w : Way) (own : List ℕ) (k r : Forest) (p : ℕ) (ws : List ℕ) (ep : p ≡ length (front w)) (ew : ws ≡ flat (plug w (node own k r)) ++ marker)
    (x : Wf dim 0 0 (plug w (node own k r))) where
  gone : spot_words (spot_in (spots_of dim ws) p) ≡ weight own k
  gone = ap spot_words (spot_there dim w own k r ws ew x p ep) ∙ (omega arith)

  -- the cells of the extent, in the file's words
  under_number : length (cells_under dim ws p) ≡ number (node own k nil)
  under_number =
      let same = alone_words own k in
      let l : length (flat (node own k nil)) ≡ weight own k = ap length same ∙ length-append own (flat k) in
      let n = file_long (plug w (node own k r)) ws ew in
      let z : length (flat (plug w (node own k r))) ≡ length (front w) + (length (flat (node own k r)) + length (rear w)) = rw (flat_plug w (node own k r)) (simp length-append refl) in
      let y = length_node own k r in
      let i : 0 + length (front w) ≡ p = omega arith in
      let t : Stands (flat (node own k r)) p ws = subst (λ q. Stands (flat (node own k r)) q ws) i (stands_way w (node own k r) 0 ws (file_stands (plug w (node own k r)) ws ew)) in
      let s : Stands (flat (node own k nil)) p ws = rw same (stands_left (own ++ flat k) (flat r) (rw (append_assoc own (flat k) (flat r)) t)) in
      rw gone (ap length (between_cells dim (depth_of 0 w) (type_over 0 w) p (node own k nil) ws (p + weight own k) (alone_wf own k (elem_of dim own k r 0 0 w x)) s (omega arith) (omega arith))
      ∙ tree_number p (node own k nil))

  remove_at : length (cells_of dim ws) ≡ length (cells_of dim (apply dim ws (remove p))) + length (cells_under dim ws p)
  remove_at =
      let n = weight own k in
      let after = file_number dim (plug (lift false n w) r) _ (wf_down dim own k r 0 0 w x (heads_of dim own k r 0 0 w x)) (remove_way dim w own k r p ws ep ew x) in
      let now = file_number dim (plug w (node own k r)) ws x ew in
      let a = plug_number (lift false n w) r in
      let b = plug_number w (node own k r) in
      let c = lift_number false n w in
      let d = under_number in
      omega arith

pub remove_number : (dim : ℕ) (ws : List ℕ) (p : ℕ) → Accepted dim ws → edit_fault dim ws (remove p) ≡ fine →
    length (cells_of dim ws) ≡ length (cells_of dim (apply dim ws (remove p))) + length (cells_under dim ws p)
unfolding edit_fault remove_fault
remove_number dim ws p a e =
    let g = there dim ws p a (unless_fine (starts_at (spots_of dim ws) p) 13 e) in
    remove_at dim g.way g.own g.components g.rest p ws g.place g.words g.wf

---- rename

rename_at : (dim a b : ℕ) (w : Way) (own : List ℕ) (k r : Forest) (ws : List ℕ) (p : ℕ) → p ≡ length (front w) → ws ≡ flat (plug w (node own k r)) ++ marker →
    Wf dim 0 0 (plug w (node own k r)) → is_cell (type_at own 0) ≡ true → name_ok a b ≡ true → length (cells_of dim (apply dim ws (rename p a b))) ≡ length (cells_of dim ws)
rename_at dim a b w own k r ws p ep ew x c ok =
    let o = (elem_of dim own k r 0 0 w x).0 in
    let x' = swapped_wf dim w own (named a b own) k r x (length_set2 own (name_in own) a b) (type_named a b own) (own_named o a b c ok) in
    file_number dim (plug w (node (named a b own) k r)) _ x' (rename_words dim a b w own k r ws p ep ew (cell_words o c))
    ∙ plug_number w (node (named a b own) k r) ∙ rw (type_named a b own) (sym (plug_number w (node own k r))) ∙ sym (file_number dim (plug w (node own k r)) ws x ew)

pub rename_number : (dim : ℕ) (ws : List ℕ) (p a b : ℕ) → Accepted dim ws → edit_fault dim ws (rename p a b) ≡ fine →
    length (cells_of dim (apply dim ws (rename p a b))) ≡ length (cells_of dim ws)
unfolding edit_fault rename_fault
rename_number dim ws p a b c e =
    let q = or_else_fine (unless (starts_at (spots_of dim ws) p) 13) (or_else (unless (is_cell (type_at ws p)) 18) (unless (name_ok a b) 12)) e in
    let t = or_else_fine (unless (is_cell (type_at ws p)) 18) (unless (name_ok a b) 12) q.1 in
    let g = there dim ws p c (unless_fine (starts_at (spots_of dim ws) p) 13 q.0) in
    let two = own_two (elem_of dim g.own g.components g.rest 0 0 g.way g.wf).0 in
    let first = first_there dim g.way g.own g.components g.rest ws g.words p g.place (omega arith) in
    rename_at dim a b g.way g.own g.components g.rest ws p g.place g.words g.wf
    (ap (λ v. is_cell (type_of v)) (sym first) ∙ unless_fine (is_cell (type_at ws p)) 18 t.0) (unless_fine (name_ok a b) 12 t.1)
