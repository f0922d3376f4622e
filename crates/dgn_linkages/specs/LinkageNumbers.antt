-- The answer about a linkage as numbers. The library's own definitions decide it.
use Rattle.std.specs.Prelude.{ℕ, [], ◌∷◌, Err, Ok, Result}
use Rattle.kinds.specs.FirstWord.{bit}
use Rattle.answers.specs.Answers.{Reply, done, refuse}
use Rattle.linkages.specs.declared.Linkage.{Linkage}
use Rattle.refusals.specs.declared.Refusal.{Refusal}

-- whether it is a user's, its place, its size, its id
abbrev pub linkage_reply : Result Linkage Refusal → Reply ℕ
linkage_reply (Ok linkage) = done (bit linkage.user ∷ linkage.place ∷ linkage.size ∷ linkage.id ∷ [])
linkage_reply (Err refusal) = refuse refusal.number refusal.place
