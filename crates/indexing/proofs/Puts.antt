-- The ways out of writing an index, and of building one of a file: what is written up to the marker is the file's index.
use Prim.Native.Nat.{ℕ, ◌*◌, ◌≤◌, ◌<◌}
use mathlib.Core.Path.{◌≡◌, refl, ap, ◌∙◌}
use mathlib.Core.Bool.{Bool, true, false, cond}
use mathlib.Core.List.{List}
use lib.ListN.{length}
use lib.Dec.{leb}
use borrow.Author.Tests.{le-leb, lt-leb}
use Rattle.words.specs.Words.{words}
use Rattle.entries.specs.Entries.{shown}
use Rattle.files.specs.Judge.{judge_of}
use Rattle.cells.specs.Index.{index_of, index_bytes}
use Rattle.cells.proofs.Whole.{judged_cells}
use Rattle.indexing.specs.Indexing.{cells_to, Builds, room_to, Puts, BuildsFile}
use Rattle.indexing.proofs.Lists.{within_limit}
use Rattle.std.specs.Prelude.{None, Ok, Err, Option, Result, Some, ok_or}
use Rattle.files.specs.Accepted.{accepted_with}
use Rattle.refusals.specs.Refusals.{refused_with, refusal_of}
use Rattle.refusals.specs.declared.Refusal.{Refusal}

module _ (file : List ℕ) (to : ℕ) (index : List ℕ) where
  pub put_long : 1048576 < length file → Puts file to index None index
  put_long h = let q : room_to file to index ≡ false = rw (lt-leb (length file) 1048576 h) refl in record { answer = rw q refl; bytes = rw q refl }

  pub put_short : length index < 8 * length (cells_to file to) → Puts file to index None index
  put_short h = go (leb (length file) 1048576) refl
    where
      go : (b : Bool) → leb (length file) 1048576 ≡ b → Puts file to index None index
      go true e = let q : room_to file to index ≡ false = rw (e, lt-leb (8 * length (cells_to file to)) (length index) h) refl in record { answer = rw q refl; bytes = rw q refl }
      go false e = let q : room_to file to index ≡ false = rw e refl in record { answer = rw q refl; bytes = rw q refl }

  pub put_fits : (n : ℕ) (t : List ℕ) → length file ≤ 1048576 → 8 * length (cells_to file to) ≤ length index → Builds file to index n t → Puts file to index (Some n) t
  put_fits n t l h b =
      let q : room_to file to index ≡ true = rw (le-leb (length file) 1048576 l, le-leb (8 * length (cells_to file to)) (length index) h) refl in
      record { answer = rw q (ap Some b.used); bytes = rw q b.bytes }

module _ (dim : ℕ) (file index : List ℕ) where
  pub judged_refused : (refusal : Refusal) → judge_of dim file ≡ Err refusal → BuildsFile dim file index (Err refusal) index
  judged_refused refusal e = record { answer = rw e refl; bytes = rw e refl }

  module _ (e d m : ℕ) (r : Option ℕ) (t : List ℕ) (q : judge_of dim file ≡ accepted_with e d m) (p : Puts file m index r t) where
    same : index_bytes dim (words file) ≡ 8 * length (cells_to file m)
    unfolding index_bytes
    same = ap (λ cs. 8 * length cs) (judged_cells dim file e d m q)

    room_is : room_to file m index ≡ leb (index_bytes dim (words file)) (length index)
    room_is = rw (within_limit dim file e d m q, same) refl

    answer_is : r ≡ cond (leb (index_bytes dim (words file)) (length index)) (Some (index_bytes dim (words file))) None
    answer_is = p.answer ∙ rw (room_is, same) refl

    bytes_are : t ≡ cond (leb (index_bytes dim (words file)) (length index)) (shown (length index) (index_of dim (words file))) index
    unfolding index_of
    bytes_are = p.bytes ∙ rw (room_is, judged_cells dim file e d m q) refl

    -- the used length, or 15 where there is no room
    as_result : (b : Bool) (n : ℕ) → ok_or (cond b (Some n) None) (refusal_of 15 0) ≡ cond b (Ok n) (refused_with 15 0)
    as_result true n = refl
    as_result false n = refl

    pub judged_put : (answer : Result ℕ Refusal) → answer ≡ ok_or r (refusal_of 15 0) → BuildsFile dim file index answer t
    judged_put answer h = record {
      answer = rw q (h ∙ ap (λ o. ok_or o (refusal_of 15 0)) answer_is ∙ as_result (leb (index_bytes dim (words file)) (length index)) (index_bytes dim (words file)));
      bytes = rw q bytes_are;
    }
