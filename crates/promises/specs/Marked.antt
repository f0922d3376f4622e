-- What a mark that is made leaves of a file's elements: all of them, with their extents, depths and headers.
use Rattle.std.specs.Prelude.{ℕ, ◌≡◌, Bool, false}
use Rattle.words.specs.Words.{Below}
use Rattle.files.specs.Spots.{spots_of}
use Rattle.edits.specs.Calls.{Session, mark_call, words_of, step}
use Rattle.edits.specs.Book.{was_refused}
use Rattle.edits.specs.Marks.{after_mark}

abbrev pub MarkElements : Type 0
MarkElements =
    (dim : ℕ) (s : Session) (p : ℕ) (deleted : Bool) → Below 256 s.file → was_refused (step dim s (mark_call p deleted)).answer ≡ false →
    spots_of dim (words_of (after_mark dim s p deleted)) ≡ spots_of dim (words_of s)
