-- Each edit made in plain facts: its own refusals are none, and its words and its record have the lengths that are named.
use Prim.Native.Nat.{ℕ, ◌+◌, ◌*◌, ◌%◌, ◌≤◌}
use mathlib.Core.Path.{◌≡◌, refl, sym, ap, ◌∙◌}
use mathlib.Core.Bool.{Bool, true, false, and-eq-true_iff}
use mathlib.Core.List.{List}
use mathlib.Core.Option.{Option, none}
use native.Mathlib.Omega.{arith}
use lib.ListN.{length, take, drop, length-append, length-take}
use lib.Dec.{eqb, leb}
use borrow.Author.Tests.{eqb-true}
use Rattle.words.specs.Words.{words, word_at}
use Rattle.words.proofs.Laws.{length_words}
use Rattle.names.specs.Names.{packed}
use Rattle.names.proofs.OneToOne.{pack_stored}
use Rattle.names.specs.Name.{packed_to}
use Rattle.limits.specs.Limits.{size_ok}
use Rattle.headers.specs.Header.{type_at}
use Rattle.kinds.specs.Kinds.{is_cell}
use Rattle.files.specs.Spots.{spots_of, spot_in}
use Rattle.edits.specs.Bits.{flag_size}
use Rattle.edits.specs.Edits.{mark, rename, insert, remove, extent_in, extent_places, flags_at}
use Rattle.edits.specs.Allowed.{fine, starts_at, flag_differs, mark_fault, rename_fault, remove_fault, edit_fault}
use Rattle.edits.specs.Records.{header_by, six, old_flags, record_of, record_words}
use Rattle.edits.specs.Calls.{Session, size_of, index_fits, mark_call, rename_call, insert_call, remove_call, words_of, session_fault, open_fault, words_by, record_by, step}
use Rattle.edits.specs.Book.{was_refused}
use Rattle.edits.specs.Made.{rename_of, mark_bytes, MarkMade, RenameMade, InsertMade, RemoveMade}
use Rattle.edits.proofs.Faults.{fine_test, fine_both}
use Rattle.edits.proofs.Allowed.{edits_made, made_exactly}
use Rattle.edits.proofs.Journal.{six_long}
use Rattle.edits.proofs.Tested.{used_parts, used_twice, ready_tested}
use Rattle.edits.proofs.Packed.{length_packed}
use Rattle.edits.proofs.Flags.{length_flags}
use Rattle.edits.proofs.Lengths.{length_mark, length_rename, length_insert, mark_fits, text_fits, remove_fits}
use Rattle.edits.specs.UsedLengths.{made_with}

module _ (dim : ℕ) (s : Session) (opens : session_fault dim s ≡ fine) where
  -- twice the used words are the used length
  used_is : 2 * length (words_of s) ≡ s.used
  used_is = sym (used_twice s.file s.used (used_parts (length s.file) s.used (ready_tested dim s opens).file))

  mark_record : (p : ℕ) (d : Bool) → 2 * length (record_by dim s (mark p d)) ≡ mark_bytes dim (words_of s) p
  unfolding record_of record_words
  mark_record p d =
      let qs = extent_places (spots_of dim (words_of s)) p in
      let x = old_flags qs (words_of s) in
      let l = length-append x (six 1 none p (length x)) in
      let n = length_packed (flags_at qs (words_of s)) ∙ ap flag_size (length_flags qs (words_of s)) in
      let long = six_long 1 none p (length x) in
      omega arith

  mark_plain : (p : ℕ) (d : Bool) → starts_at (spots_of dim (words_of s)) p ≡ true → index_fits dim (words_by dim s (mark p d)) (size_of s.index) ≡ true → flag_differs d (word_at (words_of s) p) ≡ true →
      s.jused + mark_bytes dim (words_of s) p ≤ length s.journal → (step dim s (mark_call p d)).answer ≡ made_with s.used (s.jused + mark_bytes dim (words_of s) p)
  unfolding edit_fault mark_fault open_fault
  mark_plain p d there beside differs free =
      let record_is = mark_record p d in
      edits_made dim s (mark_call p d) (mark p d) refl
      (record { opens = opens; own = fine_both (fine_test 13 there) (fine_test 14 differs); file_room = mark_fits dim s p d; index_room = beside; journal_room = omega arith })
      ∙ rw (record_is, length_mark dim (words_of s) p d, used_is) refl

  rename_plain : (p : ℕ) (text : List ℕ) (a b : ℕ) → starts_at (spots_of dim (words_of s)) p ≡ true → index_fits dim (words_by dim s (rename p a b)) (size_of s.index) ≡ true →
      is_cell (type_at (words_of s) p) ≡ true → packed text ≡ packed_to a b →
      s.jused + 16 ≤ length s.journal → (step dim s (rename_call p text)).answer ≡ made_with s.used (s.jused + 16)
  unfolding edit_fault rename_fault open_fault record_of record_words
  rename_plain p text a b there beside cell text_is free =
      edits_made dim s (rename_call p text) (rename p a b) (ap (λ q. rename_of q p) text_is)
      (record {
        opens = opens;
        own = fine_both (fine_test 13 there) (fine_both (fine_test 18 cell) (fine_test 12 (pack_stored text a b text_is).ok));
        file_room = text_fits dim s (packed_to a b) p;
        index_room = beside;
        journal_room = free;
      })
      ∙ ap (λ n. made_with (2 * n) (s.jused + 16)) (length_rename dim (words_of s) p a b) ∙ ap (λ n. made_with n (s.jused + 16)) used_is

  insert_plain : (h : Option ℕ) (p : ℕ) (piece : List ℕ) → size_ok (length piece) ≡ true → index_fits dim (words_by dim s (insert h p (words piece))) (size_of s.index) ≡ true → edit_fault dim (words_of s) (insert h p (words piece)) ≡ fine →
      s.used + length piece ≤ length s.file → s.jused + 12 ≤ length s.journal →
      (step dim s (insert_call h p piece)).answer ≡ made_with (s.used + length piece) (s.jused + 12)
  unfolding open_fault record_of record_words
  insert_plain h p piece ok beside own room free =
      let even : length piece % 2 ≡ 0 = eqb-true (length piece % 2) 0 ((and-eq-true_iff (eqb (length piece % 2) 0) (leb (length piece) 1048576)).0 ok).0 in
      let l = length_insert dim (words_of s) p h (words piece) in
      let w = length_words piece in
      let u = used_is in
      let long_six = six_long 3 h p 0 in
      let long : 2 * length (words_by dim s (insert h p (words piece))) ≡ s.used + length piece = omega arith in
      let record_is : 2 * length (record_by dim s (insert h p (words piece))) ≡ 12 = omega arith in
      edits_made dim s (insert_call h p piece) (insert h p (words piece)) refl
      (record { opens = fine_both (fine_test 1 ok) opens; own = own; file_room = omega arith; index_room = beside; journal_room = omega arith })
      ∙ rw (long, record_is) refl

  remove_plain : (p : ℕ) → starts_at (spots_of dim (words_of s)) p ≡ true → index_fits dim (words_by dim s (remove p)) (size_of s.index) ≡ true → s.jused + (2 * extent_in (spots_of dim (words_of s)) p + 12) ≤ length s.journal →
      was_refused (step dim s (remove_call p)).answer ≡ false
  unfolding edit_fault remove_fault open_fault record_of record_words
  remove_plain p there beside free =
      let h = header_by (spot_in (spots_of dim (words_of s)) p) in
      let x = take (extent_in (spots_of dim (words_of s)) p) (drop p (words_of s)) in
      let long = six_long 4 h p (length x) in
      let l = length-append x (six 4 h p (length x)) in
      let t = length-take (extent_in (spots_of dim (words_of s)) p) (drop p (words_of s)) in
      (made_exactly dim s (remove_call p) (remove p) refl).1
      (record { opens = opens; own = fine_test 13 there; file_room = remove_fits dim s p; index_room = beside; journal_room = omega arith })

pub mark_made : MarkMade
mark_made dim s p d opens = mark_plain dim s opens p d

pub rename_made : RenameMade
rename_made dim s p text a b opens = rename_plain dim s opens p text a b

pub insert_made : InsertMade
insert_made dim s h p piece opens = insert_plain dim s opens h p piece

pub remove_made : RemoveMade
remove_made dim s p opens = remove_plain dim s opens p
