-- Each answer about a file as numbers. The library's own definitions decide it.
use Rattle.std.specs.Prelude.{ℕ, cond, [], ◌∷◌, eqb, Err, Ok, Result}
use Rattle.answers.specs.Answers.{Reply, done, refuse}
use Rattle.files.specs.declared.Accepted.{Accepted}
use Rattle.finder.specs.declared.Found.{Found}
use Rattle.finder.specs.declared.Missed.{Missed}
use Rattle.refusals.specs.declared.Refusal.{Refusal}

-- elements, greatest depth, marker's place
abbrev pub judge_reply : Result Accepted Refusal → Reply ℕ
judge_reply (Ok file) = done (file.elements ∷ file.deepest ∷ file.marker ∷ [])
judge_reply (Err refusal) = refuse refusal.number refusal.place

-- the detail is the refusal's place, of 13 the count of all elements
abbrev pub find_detail : ℕ → ℕ → ℕ → ℕ
find_detail number place count = cond (eqb number 13) count place

-- the place, and how many were looked at
abbrev pub find_reply : Result Found Missed → Reply ℕ
find_reply (Ok found) = done (found.place ∷ found.looks ∷ [])
find_reply (Err missed) = refuse missed.refusal.number (find_detail missed.refusal.number missed.refusal.place missed.looks)
