-- What is lent beside the slice for the answer: as it is made where the call is done, as it was where it refuses.
use Rattle.std.specs.Prelude.{List}
use Rattle.std.proofs.lemmas.List.Edits.{sets}
use Rattle.answers.specs.Answers.{Reply, done, refuse}

abbrev pub if_done : {A S : Type 0} → Reply A → S → S → S
if_done (done given) made was = made
if_done (refuse number detail) made was = was

-- another slice of the caller's takes numbers at its front
abbrev pub besides : {A B : Type 0} → Reply A → List B → List B → List B
besides r more t = if_done r (sets t 0 more) t
