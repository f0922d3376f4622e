-- The linkages of an element by number (RULES.md, "Attribute linkages"): ws are the file's words, at is the element's
-- place.
use Rattle.std.specs.Prelude.{ℕ, ◌+◌, List, cond, Err, Ok, Option, Result, ok_or}
use Rattle.words.specs.Words.{words}
use Rattle.linkages.specs.Linkages.{linkage_in}
use Rattle.headers.specs.Header.{size_at, attribute_part_at}
use Rattle.elements.specs.Attributes.{has_attributes}
use Rattle.places.specs.Places.{spotted_at}
use Rattle.linkages.specs.declared.Linkage.{Linkage}
use Rattle.places.specs.declared.Spotted.{Spotted}
use Rattle.refusals.specs.Refusals.{refusal_of, refused_with}
use Rattle.refusals.specs.declared.Refusal.{Refusal}

-- linkage k, from 0, of the attribute part; 13 where there is none
abbrev pub attribute_by : Option Linkage → Result Linkage Refusal
attribute_by linkage = ok_or linkage (refusal_of 13 0)

abbrev pub linkage_by : Result Spotted Refusal → List ℕ → ℕ → ℕ → Result Linkage Refusal
linkage_by (Ok spot) ws at k =
    cond (has_attributes ws at) (attribute_by (linkage_in ws (at + attribute_part_at ws at) (at + size_at ws at) k)) (refused_with 13 0)
linkage_by (Err refusal) ws at k = Err refusal

unfoldable pub linkage_of : ℕ → List ℕ → ℕ → ℕ → Result Linkage Refusal
linkage_of dim s at k = linkage_by (spotted_at dim s at) (words s) at k
