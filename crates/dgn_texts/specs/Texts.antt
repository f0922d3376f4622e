-- The texts among the elements number k, k + 1, .. in file order, as many as a slice of numbers holds whole.
use Rattle.std.specs.Prelude.{ℕ, zero, suc, ◌+◌, ◌*◌, List, [], ◌∷◌, map, cond, ltb, ℤ, pos, drop, Err, Ok, Result}
use Rattle.words.specs.Words.{words, word_at}
use Rattle.texts.specs.Texts.{first_character}
use Rattle.kinds.specs.FirstWord.{deleted_of}
use Rattle.files.specs.Spots.{Spot, spots_of}
use Rattle.walking.specs.declared.Walk.{Walk}
use Rattle.walking.specs.Walk.{walk_start, next_of}
use Rattle.order.specs.Fitting.{Fitting, part_of, items_from}
use Rattle.text_views.specs.TextViews.{text_in, text_of}
use Rattle.text_numbers.specs.Numbers.{text_numbers}
use Rattle.refusals.specs.declared.Refusal.{Refusal}
use Rattle.text_views.specs.declared.Text.{Text}

-- the 18 numbers of a text at a place and a depth: these, whether it is deleted, and its own; none of what is no text
abbrev pub entry_by : Result Text Refusal → ℕ → List ℕ → ℕ → ℕ → List ℤ
entry_by (Ok text) dim ws at depth =
    pos at ∷ pos (deleted_of (word_at ws at)) ∷ pos depth ∷ text_numbers (2 * at + first_character dim) text
entry_by (Err refusal) dim ws at depth = []

-- of an element of a file, as the call for a text at its place reads it
abbrev pub text_entry : ℕ → List ℕ → Spot → List ℤ
text_entry dim s x = entry_by (text_of dim s x.place) dim (words s) x.place x.depth

-- those of a file
unfoldable pub texts_part : ℕ → List ℕ → ℕ → ℕ → Fitting ℤ
texts_part dim s room k = part_of room k (map (text_entry dim s) (drop k (spots_of dim (words s))))

-- the same by the walk: where it stands at element number i, and what is read there
abbrev pub walk_of : List ℕ → ℕ → Walk
walk_of ws zero = walk_start
walk_of ws (suc i) = next_of ws (walk_of ws i)

abbrev pub entry_at : ℕ → List ℕ → Walk → List ℤ
entry_at dim ws w = entry_by (text_in dim ws w.place) dim ws w.place w.depth

abbrev pub texts_from : ℕ → ℕ → List ℕ → ℕ → List (List ℤ)
texts_from n dim ws k = items_from n (λ i. entry_at dim ws (walk_of ws i)) k

-- the numbers of element number i, where that is k or more; none before
abbrev pub from_number : ℕ → ℕ → List ℤ → List ℤ
from_number k i e = cond (ltb i k) [] e
