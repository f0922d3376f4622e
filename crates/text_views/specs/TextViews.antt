-- What is read of a text (RULES.md, "Text"): ws are the file's words, at is the text's place.
use Rattle.std.specs.Prelude.{ℕ, ◌+◌, ◌*◌, ◌/◌, ◌%◌, List, [], Bool, cond, take, drop, eqb, ltb, ℤ, pos, negsuc, Err, None, Ok, Option, Result, Some}
use Rattle.words.specs.Words.{words, word_at, long_at, signed}
use Rattle.texts.specs.Texts.{byte_at, characters_in, fields_in, text_bytes, counts_at, first_character, field_byte}
use Rattle.turns.specs.Turns.{turn_at}
use Rattle.places.specs.Places.{spotted_at}
use Rattle.places.specs.OfType.{of_type, of_place}
use Rattle.refusals.specs.Refusals.{refused_with}
use Rattle.refusals.specs.declared.Refusal.{Refusal}
use Rattle.text_views.specs.declared.Origin.{Origin}
use Rattle.text_views.specs.declared.Origin.TheVariants as origins
use Rattle.text_views.specs.declared.Text.{Text}
use Rattle.text_views.specs.Characters.{characters_with}
use Rattle.text_views.specs.Field.{field_with}
use Rattle.text_views.specs.declared.Characters.{Characters}
use Rattle.text_views.specs.declared.Field.{Field}

---- the numbers of a text

-- behind the turn, which stands from word 23 on, the origin, signed
unfoldable pub origin_at : ℕ → List ℕ → ℕ → Origin
origin_at dim ws at =
    cond (eqb dim 2) (origins.Flat (signed (long_at ws (at + 25))) (signed (long_at ws (at + 27))))
    (origins.Solid (signed (long_at ws (at + 31))) (signed (long_at ws (at + 33))) (signed (long_at ws (at + 35))))

-- where characters and fields have an odd number of bytes, the byte behind them in their last word
unfoldable pub odd_at : ℕ → List ℕ → ℕ → Option ℕ
odd_at dim ws at =
    let n = text_bytes (counts_at dim ws at) in
    cond (eqb (n % 2) 0) None (Some (byte_at ws at (first_character dim + n)))

-- all of them: font and justification are the bytes of word 18, the multipliers are unsigned longs
unfoldable pub text_at : ℕ → List ℕ → ℕ → Text
text_at dim ws at = record {
  font = word_at ws (at + 18) % 256;
  justification = word_at ws (at + 18) / 256;
  length = long_at ws (at + 19);
  height = long_at ws (at + 21);
  turn = turn_at dim ws (at + 23);
  origin = origin_at dim ws at;
  characters = characters_in (counts_at dim ws at);
  fields = fields_in (counts_at dim ws at);
  odd = odd_at dim ws at;
}

---- its fields by number

-- the justification of a field; -1 is stored as 255
abbrev pub field_justification : ℕ → ℤ
field_justification j = cond (eqb j 255) (negsuc 0) (pos j)

-- field k, from 0: the first of its characters, counted from 1, how many they are, and its justification
unfoldable pub field_at : ℕ → List ℕ → ℕ → ℕ → Result Field Refusal
field_at dim ws at k =
    let j = field_byte dim (counts_at dim ws at) k in
    field_with (byte_at ws at j) (byte_at ws at (j + 1)) (field_justification (byte_at ws at (j + 2)))

---- of the element at a place of a judged file: 6 at it where it is no text

abbrev pub is_text : ℕ → Bool
is_text t = eqb t 17

abbrev pub of_text : {A : Type 0} → (ℕ → ℕ → A) → List ℕ → ℕ → A → A
of_text = of_type is_text

unfoldable pub text_in : ℕ → List ℕ → ℕ → Result Text Refusal
text_in dim ws at = of_text refused_with ws at (Ok (text_at dim ws at))

-- where the characters begin, as a byte of the file, and how many they are
unfoldable pub characters_at : ℕ → List ℕ → ℕ → Result Characters Refusal
characters_at dim ws at = of_text refused_with ws at (characters_with (2 * at + first_character dim) (characters_in (counts_at dim ws at)))

-- 13 where there is no field k
unfoldable pub field_in : ℕ → List ℕ → ℕ → ℕ → Result Field Refusal
field_in dim ws at k =
    of_text refused_with ws at (cond (ltb k (fields_in (counts_at dim ws at))) (field_at dim ws at k) (refused_with 13 0))

---- the calls: 1, the file's own refusals, 13 where no element starts there, then these

unfoldable pub text_of : ℕ → List ℕ → ℕ → Result Text Refusal
text_of dim s at = of_place refused_with (spotted_at dim s at) (text_in dim (words s) at)

unfoldable pub characters_of : ℕ → List ℕ → ℕ → Result Characters Refusal
characters_of dim s at = of_place refused_with (spotted_at dim s at) (characters_at dim (words s) at)

unfoldable pub field_of : ℕ → List ℕ → ℕ → ℕ → Result Field Refusal
field_of dim s at k = of_place refused_with (spotted_at dim s at) (field_in dim (words s) at k)

-- the characters as that part of the file's bytes, none where refused
abbrev pub characters_by : Result Characters Refusal → List ℕ → List ℕ
characters_by (Ok part) s = take part.length (drop part.start s)
characters_by (Err refusal) s = []

unfoldable pub character_bytes : ℕ → List ℕ → ℕ → List ℕ
character_bytes dim s at = characters_by (characters_of dim s at) s
