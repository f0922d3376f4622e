-- How many cells there will be: the counts of the code are `number_after` of each edit and of each reversal. The extent that the
-- code takes by an element's own words is the one that its file has.
use Prim.Native.Nat.{ℕ, zero, suc, ◌+◌, ◌-◌, ◌*◌, ◌/◌, ◌<◌}
use mathlib.Core.Path.{◌≡◌, refl, sym, ap, ap₂, ◌∙◌}
use mathlib.Core.Bool.{Bool, true, false, not, false≢true}
use mathlib.Core.List.{List}
use mathlib.Core.Option.{Option, some}
use native.Mathlib.Omega.{arith}
use lib.ListN.{length, take, drop, length-take}
use lib.Dec.{eqb, leb, ltb}
use borrow.Author.Tests.{ltb-true, ltb-false, lt-ltb, leb-true, leb-false, eqb-true, eqb-false}
use Rattle.words.specs.Words.{words, Below}
use Rattle.words.proofs.Laws.{length_words}
use Rattle.kinds.specs.Kinds.{is_header}
use Rattle.headers.specs.Header.{type_at, size_at, extent_words}
use Rattle.files.specs.Spots.{spots_of}
use Rattle.places.specs.declared.Above.{Above}
use Rattle.places.specs.declared.Above.TheVariants.{Top, Under}
use Rattle.places.specs.Descent.{locate_from, descent_to, locate_of}
use Rattle.places.proofs.Descent.{locate_over, locate_into, locate_own, locate_here, locate_past}
use Rattle.places.proofs.Places.{locate_before, locate_after, locate_outside}
use Rattle.cells.specs.Cells.{cells_of, cells_between, cells_within}
use Rattle.cell_edits.specs.After as after
use Rattle.cell_edits.specs.After.{number_after}
use Rattle.cell_edits.proofs.After.{cells_between_lem, reversal_fine, fits_after}
use Rattle.edits.specs.Edits.{mark, rename, insert, remove, extent_in}
use Rattle.edits.specs.Allowed.{fine, starts_at, remove_fault, edit_fault}
use Rattle.edits.specs.Records.{Rec, flag, renamed, inserted, removed, place_of, reversal, reversible}
use Rattle.edits.specs.Calls.{used_words, session_fault}
use Rattle.edits.proofs.Accepted.{Accepted}
use Rattle.edits.proofs.Faults.{unless_fine}
use Rattle.opening.specs.Opening.{session_of}
use Rattle.opening.specs.Steps.{last_place}
use Rattle.opening.proofs.Opening.{AcceptedUsed, open_accepted}
use Rattle.opening.proofs.Accepted.{found_is}
use Rattle.faults.specs.Faults.{is_at}
use Rattle.faults.proofs.Depths.{locate_depth}
use Rattle.faults.proofs.ExactMarks.{at_is}
use Rattle.changes.proofs.Found.{found_at, found_extent}
use Rattle.journals.specs.declared.Last.TheVariants as last
use Rattle.journals.specs.Journals.{record_in}
use Rattle.undoing.proofs.Ways.{Fullness}
use Rattle.indexed.specs.Indexed.{index_lent}
use Rattle.indexed.specs.Parts.{cells_used, cells_under, cells_by, CellsBack}
use Rattle.indexed.proofs.Made.{stands, newest}
use Rattle.std.specs.Prelude.{Err, None, Ok, Result, Some, Option as Maybe}
use Rattle.journals.specs.declared.Last.{Last}
use Rattle.places.specs.Spotted.{spotted_with}
use Rattle.places.specs.declared.Spotted.{Spotted}
use Rattle.refusals.specs.Refusals.{refused_with}
use Rattle.refusals.proofs.Laws.{given_is}
use Rattle.refusals.specs.declared.Refusal.{Refusal}

---- the extent of an element that the descent finds

refused_at : {n q end d : ℕ} {a : Above} → ◌≡◌ {A = (Result Spotted Refusal)} (refused_with n q) (spotted_with end d a) → ⊥
refused_at e = let z : ◌≡◌ {A = ℕ} 0 1 = cc in omega arith

end_from : (n : ℕ) (ws : List ℕ) (here depth : ℕ) (above : Above) (p end d : ℕ) (a : Above) →
    locate_from n ws here depth above p ≡ spotted_with end d a → end ≡ p + extent_words ws p
unfolding locate_from
end_from zero ws here depth above p end d a e = absurd (refused_at e)
end_from (suc n) ws here depth above p end d a e =
    go (leb (here + extent_words ws here) p) refl (ltb here p) refl (is_header (type_at ws here)) refl (eqb here p) refl
    (end_from n ws (here + extent_words ws here) depth above p end d a) (end_from n ws (here + size_at ws here) (depth + 1) (Under here) p end d a)
  where
    go : (b : Bool) → leb (here + extent_words ws here) p ≡ b → (c : Bool) → ltb here p ≡ c → (t : Bool) → is_header (type_at ws here) ≡ t → (q : Bool) → eqb here p ≡ q →
        (locate_from n ws (here + extent_words ws here) depth above p ≡ spotted_with end d a → end ≡ p + extent_words ws p) →
        (locate_from n ws (here + size_at ws here) (depth + 1) (Under here) p ≡ spotted_with end d a → end ≡ p + extent_words ws p) → end ≡ p + extent_words ws p
    go true b c c' t t' q q' over into = over (sym (locate_over n ws here depth above p (leb-true _ _ b)) ∙ e)
    go false b true c true t q q' over into = into (sym (locate_into n ws here depth above p (ltb-true _ _ c) (leb-false _ _ b) t) ∙ e)
    go false b true c false t q q' over into = absurd (refused_at (sym (locate_own n ws here depth above p (ltb-true _ _ c) (leb-false _ _ b) t) ∙ e))
    go false b false c t t' true q over into =
        let x = eqb-true here p q in
        let s = sym (locate_here n ws here depth above p x) ∙ e in
        let y : here + extent_words ws here ≡ end = ap (λ x. x.end) (given_is s) in
        sym y ∙ ap (λ k. k + extent_words ws k) x
    go false b false c t t' false q over into =
        let x = ltb-false here p c in
        let y = eqb-false here p q in
        absurd (refused_at (sym (locate_past n ws here depth above p (omega arith)) ∙ e))

locate_end : (ws : List ℕ) (p marker end d : ℕ) (a : Above) → locate_of ws p marker ≡ spotted_with end d a → end ≡ p + extent_words ws p
unfolding descent_to
locate_end ws p marker end d a e = go (ltb p marker) refl (ltb p (length ws)) refl
  where
    go : (b : Bool) → ltb p marker ≡ b → (c : Bool) → ltb p (length ws) ≡ c → end ≡ p + extent_words ws p
    go true b true c = end_from (suc p) ws 0 0 Top p end d a (sym (locate_before ws p marker (ltb-true _ _ b) (ltb-true _ _ c)) ∙ e)
    go true b false c = absurd (refused_at (sym (locate_outside ws p marker (ltb-true _ _ b) (ltb-false _ _ c)) ∙ e))
    go false b c c' = absurd (refused_at (sym (locate_after ws p marker (ltb-false _ _ b)) ∙ e))

module _ (dim : ℕ) (file : List ℕ) (used : ℕ) (journal : List ℕ) (jused : ℕ) (below : Below 256 file) (ready : session_fault dim (session_of file used journal jused) ≡ fine) where
  abbrev ws : List ℕ
  ws = used_words file used

  abbrev m : ℕ
  m = last_place file used

  accepted : Accepted dim ws
  accepted = stands dim (session_of file used journal jused) below ready

  open_used : AcceptedUsed dim (take used file) (last_place file used)
  open_used = open_accepted dim file used journal jused ready

  extent_is : (p : ℕ) → starts_at (spots_of dim ws) p ≡ true → (p < used / 2) × (extent_in (spots_of dim ws) p ≡ extent_words ws p)
  extent_is p st = go (locate_of ws p m) refl
    where
      go : (f : Result Spotted Refusal) → locate_of ws p m ≡ f → (p < used / 2) × (extent_in (spots_of dim ws) p ≡ extent_words ws p)
      go (Ok spot) e =
          let x = found_extent dim (take used file) p spot.end spot.above accepted (found_at (spots_of dim ws) p spot.end spot.depth spot.above (sym (found_is dim (take used file) m open_used p) ∙ e)) in
          let y = locate_end ws p m spot.end spot.depth spot.above e in
          let z = locate_depth ws p m spot.end spot.depth spot.above e in
          let l = length_words (take used file) in
          let t = length-take used file in
          (omega arith, omega arith)
      go (Err refusal) e = let z : ◌≡◌ {A = Bool} false true = ap is_at (sym e) ∙ at_is dim (take used file) m open_used p ∙ st in absurd (false≢true z)

  ---- the edits

  pub used_number : cells_used file used ≡ length (cells_of dim ws)
  used_number = sym (ap length (cells_between_lem dim ws accepted))

  pub under_number : (p : ℕ) → starts_at (spots_of dim ws) p ≡ true → cells_under file used p ≡ length (after.cells_under dim ws p)
  under_number p st =
      let e = extent_is p st in
      rw (lt-ltb p (used / 2) e.0) (ap (λ n. length (cells_between ws p (p + n))) (sym e.1))

  pub mark_number : (p : ℕ) (d : Bool) → cells_used file used ≡ number_after dim ws (mark p d)
  unfolding number_after
  mark_number p d = used_number

  pub rename_number : (p a b : ℕ) → cells_used file used ≡ number_after dim ws (rename p a b)
  unfolding number_after
  rename_number p a b = used_number

  pub insert_number : (h : Option ℕ) (p : ℕ) (piece : List ℕ) → cells_used file used + length (cells_between (words piece) 0 (length piece / 2)) ≡ number_after dim ws (insert h p (words piece))
  unfolding number_after
  insert_number h p piece = ap₂ ◌+◌ used_number (ap (λ n. length (cells_between (words piece) 0 n)) (sym (length_words piece)))

  pub remove_number : (p : ℕ) → edit_fault dim ws (remove p) ≡ fine → cells_used file used - cells_under file used p ≡ number_after dim ws (remove p)
  unfolding number_after edit_fault remove_fault
  remove_number p f = ap₂ ◌-◌ used_number (under_number p (unless_fine (starts_at (spots_of dim ws) p) 13 f))

  ---- the reversals

  module _ (js : List ℕ) (rec : Rec) (rest : List ℕ) (allowed : reversible dim ws rec ≡ true) where
    fault_none : edit_fault dim ws (reversal ws rec) ≡ fine
    fault_none = reversal_fine dim ws rec allowed

    back_number : (l : Maybe Last) → record_in js l ≡ some (rec, rest) → cells_by file used js l ≡ number_after dim ws (reversal ws rec)
    unfolding number_after reversal
    back_number None e = let z : ◌≡◌ {A = ℕ} 0 1 = cc in absurd (omega arith)
    back_number (Some (last.Flag p n before)) e = rw (sym (newest (flag p (take n (drop (before / 2) js))) rec (take (before / 2) js) rest e)) used_number
    back_number (Some (last.Renamed p a b before)) e = rw (sym (newest (renamed p a b) rec (take (before / 2) js) rest e)) used_number
    back_number (Some (last.Inserted h p before)) e =
        let z = newest (inserted (place_of h) p) rec (take (before / 2) js) rest e in
        rw (sym z) (remove_number p (ap (λ r. edit_fault dim ws (reversal ws r)) z ∙ fault_none))
    back_number (Some (last.Removed h p n before)) e =
        rw (sym (newest (removed (place_of h) p (take n (drop (before / 2) js))) rec (take (before / 2) js) rest e))
        (ap (λ k. k + length (cells_within (take n (drop (before / 2) js)))) used_number)

  twice : (b : Bool) → b ≡ not (not b)
  twice true = refl
  twice false = refl

  pub fullness : (buffer : List ℕ) (iused n : ℕ) (full : Bool) → CellsBack file used journal jused n → full ≡ not (leb (8 * n) (length buffer)) →
      Fullness dim ws (used_words journal jused) (index_lent buffer iused) full
  fullness buffer iused n full b is rec rest e allowed =
      let k = back_number (used_words journal jused) rec rest allowed b.record_is (b.read.is ∙ e) in
      fits_after dim ws (reversal ws rec) (length buffer) accepted (fault_none (used_words journal jused) rec rest allowed)
      ∙ ap (λ m. leb (8 * m) (length buffer)) (sym k ∙ sym b.is) ∙ twice (leb (8 * n) (length buffer)) ∙ ap not (sym is)
