-- The page: each law with a one-line proof that cites where it is proved. A crate above the library cites these, the definitions of the
-- crates and the contracts of their functions, and nothing else.
use Rattle.words.proofs.Laws as bytes
use Rattle.headers.proofs.Laws as headers
use Rattle.places.proofs.Refusals as places
use Rattle.edits.specs.Marks.{MarkMarks, MarkJudged}
use Rattle.edits.specs.Made.{MadeExactly}
use Rattle.edits.proofs.Allowed as edits
use Rattle.edits.proofs.Marks as marks
use Rattle.promises.specs.Words.{WordsLength, WordsBelow, WordsPart, ExtentTwo, ExtentSmall}
use Rattle.promises.specs.Components.{PlaceFound, PlaceRefused, ComponentsAre}
use Rattle.promises.specs.Marked.{MarkElements}
use Rattle.promises.proofs.Words as words
use Rattle.promises.proofs.Components as components
use Rattle.promises.proofs.Marked as marked

---- words of bytes, and extents

pub words_length : WordsLength
words_length = bytes.length_words

pub words_below : WordsBelow
words_below = bytes.words_below

pub words_part : WordsPart
words_part = words.words_part

pub extent_two : ExtentTwo
extent_two = headers.words_two

pub extent_small : ExtentSmall
extent_small = headers.words_small

---- the element at a place, and its direct components

pub place_found : PlaceFound
place_found = components.place_found

pub place_refused : PlaceRefused
place_refused = places.spotted_refused

pub components_are : ComponentsAre
components_are = components.components_are

---- marks

pub made_exactly : MadeExactly
made_exactly = edits.made_exactly

pub mark_marks : MarkMarks
mark_marks = marks.mark_marks

pub mark_judged : MarkJudged
mark_judged = marks.mark_judged

pub mark_elements : MarkElements
mark_elements = marked.mark_elements
