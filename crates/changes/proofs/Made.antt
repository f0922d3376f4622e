-- The edits on a file's bytes are the book's edits on its words: on an accepted used file an edit that nothing refuses leaves
-- the bytes of the edited words, stored; with how long they are, and the records of a mark and a removal.
use Prim.Native.Nat.{ℕ, ◌+◌, ◌-◌, ◌*◌, ◌/◌, ◌%◌, ◌<◌, ◌≤◌}
use mathlib.Core.Path.{◌≡◌, sym, ap, ◌∙◌, subst}
use mathlib.Core.Bool.{Bool, true, false}
use mathlib.Core.List.{List, ◌++◌}
use mathlib.Core.Option.{Option}
use native.Mathlib.Omega.{arith}
use lib.ListN.{length, take, drop, replicate}
use lib.Seq.{length-take-le}
use Rattle.words.specs.Words.{words, Below}
use Rattle.words.proofs.Laws.{length_words, words_below}
use Rattle.files.specs.Spots.{spots_of, spot_in}
use Rattle.places.specs.declared.Above.{Above}
use Rattle.places.specs.Descent.{locate_of}
use Rattle.places.proofs.Places.{spot_inside}
use Rattle.edits.proofs.Lengths.{length_raise, length_mark}
use Rattle.edits.proofs.Flags.{length_with}
use Rattle.edits.specs.Bits.{word_flags}
use Rattle.edits.specs.Edits.{mark, rename, insert, remove, restore, extent_places, around, down_to, extent_in, raise, apply}
use Rattle.headers.specs.Header.{name_place}
use Rattle.edits.specs.Allowed.{fine, or_else, unless, gap_ok, piece_fault, room_fault, insert_fault}
use Rattle.edits.specs.Records.{flag, removed, old_flags, header_by, record_of}
use Rattle.edits.specs.Calls.{used_words, stored}
use Rattle.edits.proofs.Accepted.{Accepted}
use Rattle.edits.proofs.Bounds.{below_take}
use Rattle.edits.proofs.Faults.{or_else_fine, unless_fine}
use Rattle.edits.proofs.Parts.{length_set2}
use Rattle.buffers.specs.Files.{words_inserted, words_removed}
use Rattle.buffers.proofs.Stored.{length_splice, length_cut}
use Rattle.buffers.proofs.Laws.{inserted_stored, removed_stored}
use Rattle.opening.specs.Opening.{header_of}
use Rattle.opening.proofs.Opening.{AcceptedUsed}
use Rattle.opening.proofs.Accepted.{standing, found_is}
use Rattle.changes.specs.CellNames.{name_put}
use Rattle.flags.specs.Extents.{places_in, flags_put, all_put}
use Rattle.flags.proofs.Walked.{found_places}
use Rattle.changes.specs.Changes.{totals_under, used_totals, piece_in, extent_out}
use Rattle.changes.proofs.Steps.{piece_within, extent_within}
use Rattle.changes.proofs.Kept.{below_under, flags_stored, name_stored, totals_stored}
use Rattle.changes.proofs.Found.{gap_within, raised_under, Found, found_at, found_extent, lowered_under}
use Rattle.places.specs.Spotted.{spotted_with}

module _ (dim : ℕ) (F : List ℕ) (used m : ℕ) (below : Below 256 F) (even : used % 2 ≡ 0) (within : used ≤ length F) (accepted : AcceptedUsed dim (take used F) m) where
  ---- the used bytes and words

  part_length : length (take used F) ≡ used
  part_length = length-take-le used F within

  part_below : Below 256 (take used F)
  part_below = below_take 256 used F (omega arith) below

  part_accepted : Accepted dim (used_words F used)
  part_accepted = standing dim (take used F) m accepted part_below

  part_words : 2 * length (used_words F used) ≡ used
  part_words = let l = part_length in let w = length_words (take used F) in omega arith

  ---- mark, its undo and rename

  pub mark_length : (p : ℕ) (deleted : Bool) → 2 * length (apply dim (used_words F used) (mark p deleted)) ≡ used
  mark_length p deleted = ap (λ n. 2 * n) (length_mark dim (used_words F used) p deleted) ∙ part_words

  pub restore_length : (p : ℕ) (x : List ℕ) → 2 * length (apply dim (used_words F used) (restore p x)) ≡ used
  unfolding apply
  restore_length p x = ap (λ n. 2 * n) (length_with (extent_places (spots_of dim (used_words F used)) p) (word_flags x) (used_words F used)) ∙ part_words

  module _ (p end depth : ℕ) (above : Above) (located : locate_of (used_words F used) p m ≡ spotted_with end depth above) where
    -- the elements of the extent
    pub extent_found : extent_places (spots_of dim (used_words F used)) p ≡ places_in (used_words F used) p end
    extent_found = found_places dim (take used F) m accepted part_below p end depth above located

    pub mark_made : (deleted : Bool) → all_put deleted p end (take used F) ++ drop used F ≡ stored F used (apply dim (used_words F used) (mark p deleted))
    unfolding apply all_put
    mark_made deleted =
        rw extent_found
        (flags_stored F used (take used F) even part_length part_below (places_in (used_words F used) p end) (replicate (length (places_in (used_words F used) p end)) deleted))

    pub mark_record : (deleted : Bool) → record_of dim (used_words F used) (mark p deleted) ≡ flag p (old_flags (places_in (used_words F used) p end) (used_words F used))
    unfolding record_of
    mark_record deleted = ap (λ qs. flag p (old_flags qs (used_words F used))) extent_found

    pub restore_made : (x : List ℕ) → flags_put (places_in (used_words F used) p end) (word_flags x) (take used F) ++ drop used F ≡ stored F used (apply dim (used_words F used) (restore p x))
    unfolding apply
    restore_made x = rw extent_found (flags_stored F used (take used F) even part_length part_below (places_in (used_words F used) p end) (word_flags x))

  pub rename_made : (p a b : ℕ) → a < 65536 → b < 65536 →
      name_put p a b (take used F) ++ drop used F ≡ stored F used (apply dim (used_words F used) (rename p a b))
  unfolding apply
  rename_made p a b x y = name_stored F used (take used F) even part_length part_below p a b x y

  pub rename_length : (p a b : ℕ) → 2 * length (apply dim (used_words F used) (rename p a b)) ≡ used
  unfolding apply
  rename_length p a b = ap (λ n. 2 * n) (length_set2 (used_words F used) (name_place (used_words F used) p) a b) ∙ part_words

  ---- the totals

  -- the used part with its totals corrected, where its words are known to be the corrected ones
  totals_made : (up : Bool) (n : ℕ) (h : Above) (qs : List ℕ) → words (totals_under up n h (take used F)) ≡ raise up n qs (used_words F used) →
      (used_totals up n h F used ≡ stored F used (raise up n qs (used_words F used))) × (used ≡ 2 * length (raise up n qs (used_words F used))) × Below 65536 (raise up n qs (used_words F used))
  totals_made up n h qs e = (
    totals_stored F used (take used F) even part_length part_below up n h (raise up n qs (used_words F used)) e,
    sym (ap (λ k. 2 * k) (length_raise up n qs (used_words F used)) ∙ part_words),
    subst (Below 65536) e (words_below (totals_under up n h (take used F)) (below_under up n h (take used F) part_below)),
  )

  ---- insert

  pub insert_made : (h : Above) (p : ℕ) (piece : List ℕ) → length piece % 2 ≡ 0 →
      insert_fault dim (spots_of dim (used_words F used)) (used_words F used) (header_of h) p (words piece) ≡ fine → used + length piece ≤ length F →
      piece_in F used h p piece ≡ stored F used (apply dim (used_words F used) (insert (header_of h) p (words piece)))
  unfolding apply insert_fault
  insert_made h p piece o e room =
      let ws = used_words F used in
      let xs = spots_of dim (used_words F used) in
      let n = length (words piece) in
      let qs = down_to (spots_of dim (used_words F used)) (header_of h) in
      let q = or_else_fine (unless (gap_ok xs ws (header_of h) p) 13) (or_else (piece_fault dim xs ws (header_of h) (words piece)) (room_fault n ws qs)) e in
      let r = (or_else_fine (piece_fault dim xs ws (header_of h) (words piece)) (room_fault n ws qs) q.1).1 in
      let gap = unless_fine (gap_ok xs ws (header_of h) p) 13 q.0 in
      let half : length piece / 2 ≡ length (words piece) = sym (length_words piece) in
      let t = totals_made true n h qs (raised_under dim n h p (take used F) part_accepted gap r) in
      let i = gap_within dim ws (header_of h) p part_accepted gap in
      let l = t.1 in
      let k = part_words in
      piece_within F used h p piece within
      ∙ ap (λ x. words_inserted x used p piece) (ap (λ k. used_totals true k h F used) half ∙ t.0)
      ∙ inserted_stored F used (raise true n qs ws) p piece t.1 t.2 (omega arith) o room

  pub insert_length : (h : Option ℕ) (p : ℕ) (piece : List ℕ) → length piece % 2 ≡ 0 →
      2 * length (apply dim (used_words F used) (insert h p (words piece))) ≡ used + length piece
  unfolding apply
  insert_length h p piece o =
      let ws = used_words F used in
      let n = length (words piece) in
      let qs = down_to (spots_of dim (used_words F used)) h in
      let a = length_splice (raise true n qs ws) p (words piece) in
      let b = length_raise true n qs ws in
      let c = length_words piece in
      let d = part_words in
      omega arith

  ---- remove

  module _ (p end depth : ℕ) (above : Above) (located : locate_of (used_words F used) p m ≡ spotted_with end depth above) where
    found : Found (spots_of dim (used_words F used)) p end above
    found = found_at (spots_of dim (used_words F used)) p end depth above (sym (found_is dim (take used F) m accepted p) ∙ located)

    extent : extent_in (spots_of dim (used_words F used)) p ≡ end - p
    extent = found_extent dim (take used F) p end above part_accepted found

    -- the extent ends within the used words, after its start
    pub remove_within : (p < end) × (2 * end ≤ used)
    remove_within =
        let f = found in
        let i = spot_inside dim (take used F) accepted.elements accepted.deepest m accepted.judged p f.spot f.found in
        let e = f.ends in
        let a = i.0 in
        let b = i.1 in
        let w = part_words in
        (omega arith, omega arith)

    pub remove_made : extent_out F used above p (end - p) ≡ stored F used (apply dim (used_words F used) (remove p))
    unfolding apply
    remove_made =
        let ws = used_words F used in
        let n = end - p in
        let qs = around (spots_of dim (used_words F used)) p in
        let t = totals_made false n above qs (lowered_under dim (take used F) p end above part_accepted found n) in
        let i = remove_within in
        let a = i.0 in
        let b = i.1 in
        let l = t.1 in
        rw extent
        (extent_within F used above p n within
        ∙ ap (λ x. words_removed x used p n) t.0
        ∙ removed_stored F used (raise false n qs ws) p n t.1 t.2 (omega arith) within)

    pub remove_length : 2 * length (apply dim (used_words F used) (remove p)) ≡ used - 2 * (end - p)
    unfolding apply
    remove_length =
        let ws = used_words F used in
        let n = end - p in
        let qs = around (spots_of dim (used_words F used)) p in
        let i = remove_within in
        let a = i.0 in
        let b = i.1 in
        let r = length_raise false n qs ws in
        let w = part_words in
        let c = length_cut (raise false n qs ws) p n (omega arith) in
        rw extent (omega arith)

    pub remove_record : record_of dim (used_words F used) (remove p) ≡ removed (header_of above) p (take (end - p) (drop p (used_words F used)))
    unfolding record_of
    remove_record =
        let f = found in
        ap (λ n. removed (header_by (spot_in (spots_of dim (used_words F used)) p)) p (take n (drop p (used_words F used)))) extent
        ∙ ap (λ h. removed h p (take (end - p) (drop p (used_words F used)))) (ap header_by f.found ∙ f.header)
