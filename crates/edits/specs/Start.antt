-- Every accepted file can be edited: with its bytes through the marker at the front of a buffer, an empty journal, and an index
-- built of it or none, a session opens.
use Rattle.std.specs.Prelude.{ℕ, ◌+◌, ◌*◌, ◌≡◌, List, true, length, take}
use Rattle.std.proofs.Math.Option.{Option}
use Rattle.words.specs.Words.{Below}
use Rattle.limits.specs.Limits.{size_ok}
use Rattle.files.specs.Judge.{judge_of}
use Rattle.files.specs.Accepted.{accepted_with}
use Rattle.edits.specs.Calls.{Index, Session, index_fits, afresh, used_words}
use Rattle.edits.specs.Demand.{OpenedEmpty}

-- a lent buffer: bytes, of an allowed length
pub record Buffer (s : List ℕ) : Type 0 where
  pub bytes : Below 256 s
  pub size : size_ok (length s) ≡ true

-- the session on a file's buffer, used through the marker at word m, a journal's buffer, of which nothing is used, and an index
abbrev pub start_on : List ℕ → ℕ → List ℕ → Option Index → Session
start_on file m journal index = record { file = file; used = 2 * (m + 1); journal = journal; jused = 0; index = index }

-- the used words of that file
abbrev pub start_words : List ℕ → ℕ → List ℕ
start_words file m = used_words file (2 * (m + 1))

-- s is accepted with its marker at word m, and the file's buffer begins with its bytes through the marker; an index of it fits a
-- buffer of so many bytes, if there is one
abbrev pub AcceptedOpens : Type 0
AcceptedOpens =
    (dim : ℕ) (s file journal : List ℕ) (e d m : ℕ) (beside : Option ℕ) → judge_of dim s ≡ accepted_with e d m →
    take (2 * (m + 1)) file ≡ take (2 * (m + 1)) s → Buffer file → Buffer journal →
    index_fits dim (start_words file m) beside ≡ true → OpenedEmpty dim (start_on file m journal (afresh dim (start_words file m) beside))
