-- How many words an edit leaves: totals and counts are corrected in place, and only an insert needs more room.
use Prim.Native.Nat.{ℕ, ◌+◌, ◌*◌, ◌≤◌}
use mathlib.Core.Path.{◌≡◌, refl, ◌∙◌}
use mathlib.Core.Bool.{Bool, true, false, ◌&&◌}
use mathlib.Core.List.{List, [], ◌∷◌}
use mathlib.Core.Option.{Option}
use native.Mathlib.Omega.{arith}
use lib.ListN.{length, take, set, replicate, length-set, length-append, length-take, length-drop}
use Rattle.std.specs.Prelude.{Err, Ok, Result}
use Rattle.refusals.specs.declared.Refusal.{Refusal}
use Rattle.words.specs.Words.{word_at}
use Rattle.words.proofs.Laws.{length_words}
use Rattle.names.specs.declared.Name.{Name}
use Rattle.headers.specs.Header.{type_at, name_place}
use Rattle.kinds.specs.Kinds.{is_counted}
use Rattle.files.specs.Spots.{spots_of}
use Rattle.edits.specs.Edits.{mark, rename, insert, remove, extent_places, moved, count_moved, corrected, is_last, raise, splice, cut, apply}
use Rattle.edits.specs.Calls.{Session, words_of, words_by, name_of_text}
use Rattle.edits.proofs.Parts.{length_set2}
use Rattle.edits.proofs.Flags.{length_with}

length_corrected : (up : Bool) (n : ℕ) (direct : Bool) (q : ℕ) (ws : List ℕ) → length (corrected up n direct q ws) ≡ length ws
unfolding corrected
length_corrected up n direct q ws = go (direct && is_counted (type_at ws q))
  where
    go : (b : Bool) → length (count_moved b up q (set ws (q + 18) (moved up n (word_at ws (q + 18))))) ≡ length ws
    go true = length-set (set ws (q + 18) _) (q + 19) _ ∙ length-set ws (q + 18) _
    go false = length-set ws (q + 18) _

pub length_raise : (up : Bool) (n : ℕ) (qs ws : List ℕ) → length (raise up n qs ws) ≡ length ws
length_raise up n [] ws = refl
length_raise up n (q ∷ qs) ws = length_raise up n qs (corrected up n (is_last qs) q ws) ∙ length_corrected up n (is_last qs) q ws

---- the words after each edit

module _ (dim : ℕ) (ws : List ℕ) (p : ℕ) where
  pub length_mark : (d : Bool) → length (apply dim ws (mark p d)) ≡ length ws
  unfolding apply
  length_mark d = length_with (extent_places (spots_of dim ws) p) (replicate (length (extent_places (spots_of dim ws) p)) d) ws

  pub length_rename : (a b : ℕ) → length (apply dim ws (rename p a b)) ≡ length ws
  unfolding apply
  length_rename a b = length_set2 ws (name_place ws p) a b

  pub length_insert : (h : Option ℕ) (x : List ℕ) → length (apply dim ws (insert h p x)) ≡ length ws + length x
  unfolding apply splice
  length_insert h x = simp (length-append, length-take, length-drop, length_raise) (omega arith)

  pub length_remove : length (apply dim ws (remove p)) ≤ length ws
  unfolding apply cut
  length_remove = simp (length-append, length-take, length-drop, length_raise) (omega arith)

---- so all but an insert have room in the buffer

module _ (dim : ℕ) (s : Session) where
  -- the used words stand in the buffer
  used_room : 2 * length (words_of s) ≤ length s.file
  used_room = let w = length_words (take s.used s.file) in let t = length-take s.used s.file in omega arith

  pub mark_fits : (p : ℕ) (d : Bool) → 2 * length (words_by dim s (mark p d)) ≤ length s.file
  mark_fits p d = let l = length_mark dim (words_of s) p d in let r = used_room in omega arith

  pub text_fits : (q : Result Name Refusal) (p : ℕ) → 2 * length (words_by dim s (name_of_text q p)) ≤ length s.file
  text_fits (Ok name) p = let l = length_rename dim (words_of s) p name.first name.second in let r = used_room in omega arith
  text_fits (Err refusal) p = let l = length_rename dim (words_of s) p 0 0 in let r = used_room in omega arith

  pub remove_fits : (p : ℕ) → 2 * length (words_by dim s (remove p)) ≤ length s.file
  remove_fits p = let l = length_remove dim (words_of s) p in let r = used_room in omega arith
