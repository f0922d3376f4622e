-- The listings of the programs celllist, textlist and platelist (RULES.md, "Listing"): one line of a refused file or of more than
-- 65,536 bytes; else the heading, a line for each element, or for each text, in file order, and the end, or a line for each live cell.
use Rattle.std.specs.Prelude.{ℕ, zero, suc, cond, ◌&&◌, List, [], ◌∷◌, ◌++◌, eqb, leb, length, Err, Ok, Result}
use Rattle.refusals.specs.declared.Refusal.{Refusal}
use Rattle.words.specs.Words.{words}
use Rattle.kinds.specs.Kinds.{is_cell}
use Rattle.headers.specs.Header.{type_at}
use Rattle.files.specs.Judge.{judge_of}
use Rattle.files.specs.Spots.{Spot, spots_of}
use Rattle.files.specs.declared.Accepted.{Accepted}
use Rattle.walking.specs.declared.Walk.{Walk}
use Rattle.walking.specs.Walk.{next_of}
use Rattle.listing.specs.Lines.{heading_line, refused_line, end_line}
use Rattle.listing.specs.Texts.{text_heading}
use Rattle.lines.specs.Element.{line_of}
use Rattle.text_lines.specs.Text.{text_line_of}
use Rattle.finder.specs.Finder.{is_live}
use Rattle.plates.specs.Plates.{plate_of}
use Rattle.plate_lines.specs.Plate.{line_by, line_in}

---- the listings

-- by what judging answers; `whole` is what an accepted file has, by its marker's place
abbrev pub listing_by : Result Accepted Refusal → (ℕ → List ℕ) → List ℕ
listing_by (Err refusal) whole = refused_line refusal.number refusal.place
listing_by (Ok file) whole = whole file.marker

-- of the bytes s of a 2D file
unfoldable pub listed : (ℕ → List ℕ) → List ℕ → List ℕ
listed whole s = cond (leb (length s) 65536) (listing_by (judge_of 2 s) whole) (refused_line 1 0)

-- the line of each element, by its place and depth
abbrev pub lines_of : (ℕ → ℕ → List ℕ) → List Spot → List ℕ
lines_of line [] = []
lines_of line (x ∷ xs) = line x.place x.depth ++ lines_of line xs

-- celllist: all elements
abbrev pub listing_of : List ℕ → List ℕ
listing_of s = listed (λ m. heading_line ++ (lines_of (line_of (words s)) (spots_of 2 (words s)) ++ end_line m)) s

-- the texts among elements
abbrev pub texts_among : List ℕ → List Spot → List Spot
texts_among ws [] = []
texts_among ws (x ∷ xs) = cond (eqb (type_at ws x.place) 17) (x ∷ texts_among ws xs) (texts_among ws xs)

-- textlist: all texts
abbrev pub text_listing_of : List ℕ → List ℕ
text_listing_of s = listed (λ m. text_heading ++ (lines_of (text_line_of s) (texts_among (words s) (spots_of 2 (words s))) ++ end_line m)) s

-- the live cells among elements
abbrev pub cells_among : List ℕ → List Spot → List Spot
cells_among ws [] = []
cells_among ws (x ∷ xs) = cond (is_cell (type_at ws x.place) && is_live ws x.place) (x ∷ cells_among ws xs) (cells_among ws xs)

-- platelist: the plates of all live cells, each as the call for it gives it
abbrev pub plate_listing_of : List ℕ → List ℕ
plate_listing_of s = listed (λ m. lines_of (λ at depth. line_by at (plate_of 2 s at)) (cells_among (words s) (spots_of 2 (words s)))) s

---- along the walk

-- the lines of n steps of the walk, from a step on
abbrev pub lines_along : (ℕ → ℕ → List ℕ) → ℕ → List ℕ → Walk → List ℕ
lines_along line zero ws w = []
lines_along line (suc n) ws w = line w.place w.depth ++ lines_along line n ws (next_of ws w)

-- those of celllist, of textlist, of which an element that is no text has none, and of platelist, of which one that is no live cell has
-- none
abbrev pub walk_lines : ℕ → List ℕ → Walk → List ℕ
walk_lines n ws w = lines_along (line_of ws) n ws w

abbrev pub walk_texts : ℕ → List ℕ → Walk → List ℕ
walk_texts n s w = lines_along (text_line_of s) n (words s) w

abbrev pub walk_plates : ℕ → List ℕ → Walk → List ℕ
walk_plates n ws w = lines_along (λ at depth. line_in ws at) n ws w

-- where the walk is after n steps
abbrev pub walk_place : ℕ → List ℕ → Walk → ℕ
walk_place zero ws w = w.place
walk_place (suc n) ws w = walk_place n ws (next_of ws w)
