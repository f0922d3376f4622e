-- Where a list of elements ends (RULES.md, "End of a file"). `depth` is how many headers stand above the list.
use Rattle.std.specs.Prelude.{ℕ, List, cond, ◌&&◌, eqb, ltb}
use Rattle.words.specs.Words.{word_at}
use Rattle.files.specs.declared.Stop.{Stop}
use Rattle.files.specs.declared.Stop.TheVariants.{More, Done, Lacking}

-- at the top at the word 65535, which must come; under a header at its extent's end
unfoldable pub stop_of : ℕ → List ℕ → ℕ → ℕ → Stop
stop_of depth ws at bound =
    cond (ltb at bound)
    (cond (eqb depth 0 && eqb (word_at ws at) 65535) Done More)
    (cond (eqb depth 0) Lacking Done)
