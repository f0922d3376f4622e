-- How a call on a file is refused (RULES.md, "Refusals"): as judging refuses the file, with its number and
-- place, or by one of the call's own numbers, at place 0.
use Rattle.std.specs.Prelude.{ℕ, ◌≡◌, ◌⊎◌, List}
use Rattle.words.specs.OneOf.{OneOf}
use Rattle.files.specs.Judge.{judge_of}
use Rattle.refusals.specs.Refusals.{refused_with}

-- s: the file's bytes; own: the numbers of the call's own
abbrev pub RefusedBy : ℕ → List ℕ → List ℕ → ℕ → ℕ → Type 0
RefusedBy dim s own n p = (judge_of dim s ≡ refused_with n p) ⊎ (OneOf own n × (p ≡ 0))
