-- The line of the cell at a place of a file (RULES.md, "Listing"), as bytes.
use Rattle.std.specs.Prelude.{ℕ, List, [], cond, Err, Ok, Result}
use Rattle.names.specs.Names.{unpacked}
use Rattle.finder.specs.Finder.{is_live}
use Rattle.listing.specs.Plates.{plate_line}
use Rattle.lines.specs.Element.{unpacked_text}
use Rattle.plates.specs.declared.Plate.{Plate}
use Rattle.plates.specs.Hops.{plate_in}
use Rattle.refusals.specs.declared.Refusal.{Refusal}

-- with a plate, whose code is the text of its two words
unfoldable pub line_with : ℕ → Plate → List ℕ
line_with at p =
    plate_line at p.lines p.pointed p.texts p.curves p.headers p.others p.levels (unpacked_text (unpacked p.first p.second))

-- by what the call for the plate answers; a refusal has none
abbrev pub line_by : ℕ → Result Plate Refusal → List ℕ
line_by at (Ok plate) = line_with at plate
line_by at (Err refusal) = []

-- in words that were judged; deleted cells are passed over
unfoldable pub line_in : List ℕ → ℕ → List ℕ
line_in ws at = cond (is_live ws at) (line_by at (plate_in ws at)) []
