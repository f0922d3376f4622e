-- Each answer about a text as numbers. The library's own definitions decide it.
use Rattle.std.specs.Prelude.{ℕ, ◌+◌, ◌*◌, [], ◌∷◌, ℤ, pos, Err, Ok, Result}
use Rattle.texts.specs.Texts.{first_character}
use Rattle.text_numbers.specs.Numbers.{text_numbers}
use Rattle.answers.specs.Answers.{Reply, done, refuse}
use Rattle.refusals.specs.declared.Refusal.{Refusal}
use Rattle.text_views.specs.declared.Characters.{Characters}
use Rattle.text_views.specs.declared.Field.{Field}
use Rattle.text_views.specs.declared.Text.{Text}

-- the numbers of the text at a place
abbrev pub text_reply : ℕ → ℕ → Result Text Refusal → Reply ℤ
text_reply dim at (Ok text) = done (text_numbers (2 * at + first_character dim) text)
text_reply dim at (Err refusal) = refuse refusal.number refusal.place

-- the byte where its characters begin, and how many they are
abbrev pub characters_reply : Result Characters Refusal → Reply ℕ
characters_reply (Ok part) = done (part.start ∷ part.length ∷ [])
characters_reply (Err refusal) = refuse refusal.number refusal.place

-- the first character of a field, how many it has, its justification
abbrev pub field_reply : Result Field Refusal → Reply ℤ
field_reply (Ok field) = done (pos field.first ∷ pos field.length ∷ field.justification ∷ [])
field_reply (Err refusal) = refuse refusal.number refusal.place
