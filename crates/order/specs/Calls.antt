-- A call that goes over a file's elements from some number on: how it begins, when no element fits, and what it answers.
use Rattle.std.specs.Prelude.{ℕ, Bool, cond, ◌&&◌, List, eqb, leb, ltb, Err, Ok, Result}
use Rattle.files.specs.Judge.{judge_of}
use Rattle.answers.specs.Answers.{Reply, done, refuse, refusal_number}
use Rattle.files.specs.declared.Accepted.{Accepted}
use Rattle.refusals.specs.declared.Refusal.{Refusal}

-- how many elements the file has, or the one number of its refusal
abbrev pub begun_by : Result Accepted Refusal → Result ℕ ℕ
begun_by (Err refusal) = Err (refusal_number refusal.number refusal.place)
begun_by (Ok file) = Ok file.elements

-- a slice of fewer numbers than the answer needs is refused with 1 before all else
unfoldable pub begun_of : ℕ → List ℕ → ℕ → ℕ → Result ℕ ℕ
begun_of dim s needed room = cond (leb needed room) (begun_by (judge_of dim s)) (Err 1)

-- nothing was put, and an element is left, number `next`
abbrev pub none_fits : ℕ → ℕ → ℕ → Bool
none_fits put next elements = eqb put 0 && ltb next elements

-- the file's own refusals, then 15 where an element is left and none fits; done: these numbers
abbrev pub reply_by : Result Accepted Refusal → ℕ → ℕ → List ℕ → Reply ℕ
reply_by (Err refusal) put next given = refuse refusal.number refusal.place
reply_by (Ok file) put next given = cond (none_fits put next file.elements) (refuse 15 0) (done given)
