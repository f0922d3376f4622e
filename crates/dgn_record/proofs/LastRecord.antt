-- The numbers of what was read are those of the journal's last record; and each refusal before it.
use Prim.Native.Nat.{ℕ, ◌/◌}
use mathlib.Core.Path.{◌≡◌, refl, sym}
use mathlib.Core.Logic.{◌≢◌}
use mathlib.Core.Bool.{true, false}
use mathlib.Core.List.{List}
use native.Mathlib.Omega.{arith}
use lib.ListN.{length, take, drop, length-take, length-drop}
use borrow.Author.Tests.{eq-eqb, ne_eqb}
use Rattle.std.specs.Prelude.{None, Option, Some}
use Rattle.words.specs.Words.{words}
use Rattle.words.proofs.Laws.{length_words}
use Rattle.limits.specs.Limits.{used_ok}
use Rattle.edits.specs.Records.{last_record}
use Rattle.journals.specs.Journals.{RecordWithin, LastRead}
use Rattle.journals.specs.declared.Last.TheVariants.{Flag, Renamed, Inserted, Removed}
use Rattle.journals.proofs.Records.{before_length}
use Rattle.journals.specs.declared.Last.{Last}
use Rattle.answers.specs.Answers.{refuse}
use Rattle.dgn_record.specs.LastRecord.{newest_reply, record_reply, last_reply}

-- the payload's words
count_is : (j : List ℕ) (n p before : ℕ) → RecordWithin (length j) n p before → length (take n (drop (before / 2) (words j))) ≡ n
count_is j n p before w = let e = length_words j in let h = w.room in simp (length-take, length-drop) (omega arith)

pub last_reply_lem : (j : List ℕ) (r : Option Last) → LastRead j r → last_reply r ≡ newest_reply (last_record (words j))
last_reply_lem j None l = rw (← l.is) refl
last_reply_lem j (Some (Flag p n before)) l = rw (← l.is) (rw (before_length j n p before l.within, count_is j n p before l.within) refl)
last_reply_lem j (Some (Renamed p a b before)) l = rw (← l.is) (rw (before_length j 2 p before l.within.2) refl)
last_reply_lem j (Some (Inserted h p before)) l = rw (← l.is) (rw (before_length j 0 p before l.within.1) refl)
last_reply_lem j (Some (Removed h p n before)) l = rw (← l.is) (rw (before_length j n p before l.within.1, count_is j n p before l.within.1) refl)

module _ (j : List ℕ) (jused : ℕ) where
  pub not_lent : used_ok (length j) jused ≡ false → record_reply j jused ≡ refuse 1 0
  unfolding record_reply
  not_lent e = rw e refl

  pub nothing_used : used_ok (length j) jused ≡ true → jused ≡ 0 → record_reply j jused ≡ refuse 17 0
  unfolding record_reply
  nothing_used e z = rw (e, eq-eqb jused 0 z) refl

  pub record_read : (r : Option Last) → used_ok (length j) jused ≡ true → jused ≢ 0 → LastRead (take jused j) r → record_reply j jused ≡ last_reply r
  unfolding record_reply
  record_read r e z l = rw (e, ne_eqb jused 0 z) (sym (last_reply_lem (take jused j) r l))
