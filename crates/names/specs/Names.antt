-- Radix-50 names (RULES.md, "Names"). A text is a list of bytes; a stored name is two words.
-- That texts and accepted word pairs match one to one is proved in proofs/OneToOne.
use Rattle.std.specs.Prelude.{ℕ, ◌+◌, ◌*◌, ◌-◌, ◌/◌, ◌%◌, List, [], ◌∷◌, ◌++◌, map, Bool, true, cond, not, ◌&&◌, length, get_or, replicate, leb, eqb, Err, Ok, Result}
use Rattle.names.specs.declared.Codes.{Codes}
use Rattle.names.specs.declared.Unpacked.{Unpacked}
use Rattle.names.specs.declared.NoText.{NoText}
use Rattle.names.specs.Name.{packed_to, no_text_with}
use Rattle.names.specs.declared.Name.{Name}
use Rattle.refusals.specs.Refusals.{refused_with}
use Rattle.refusals.specs.declared.Refusal.{Refusal}

-- whether n is at least low and at most high
abbrev pub between : ℕ → ℕ → ℕ → Bool
between low n high = leb low n && leb n high

-- the code of a letter: space 0, A-Z 1-26, $ 27, . 28, 0-9 30-39; 29 for a byte that is no letter
unfoldable pub code_of : ℕ → ℕ
code_of b =
    cond (eqb b 32) 0
    (cond (between 65 b 90) (b - 64)
    (cond (eqb b 36) 27
    (cond (eqb b 46) 28
    (cond (between 48 b 57) (b - 18) 29))))

-- the letter of a code: 0 space, 1-26 A-Z, 27 $, 28 ., 30-39 0-9; the byte 0 for 29 and what is no code
unfoldable pub letter_of : ℕ → ℕ
letter_of c =
    cond (eqb c 0) 32
    (cond (between 1 c 26) (c + 64)
    (cond (eqb c 27) 36
    (cond (eqb c 28) 46
    (cond (between 30 c 39) (c + 18) 0))))

-- the word of three codes
abbrev pub word_of : ℕ → ℕ → ℕ → ℕ
word_of a b c = a * 1600 + b * 40 + c

-- the three codes of a word
abbrev pub letters_of : ℕ → Codes
letters_of w = record { a = w / 1600; b = w / 40 % 40; c = w % 40 }

-- whether none of three codes is 29
abbrev pub codes_ok : Codes → Bool
codes_ok l = not (eqb l.a 29) && (not (eqb l.b 29) && not (eqb l.c 29))

-- whether a word is part of a stored name: at most 63999, no code 29
unfoldable pub word_ok : ℕ → Bool
word_ok w = leb w 63999 && codes_ok (letters_of w)

-- whether two words are a stored name
unfoldable pub name_ok : ℕ → ℕ → Bool
name_ok first second = word_ok first && word_ok second

-- whether each byte of a text is a letter
abbrev pub all_letters : List ℕ → Bool
all_letters [] = true
all_letters (b ∷ t) = not (eqb (code_of b) 29) && all_letters t

-- whether the last letter of a text is a space
abbrev pub ends_in_space : List ℕ → Bool
ends_in_space t = eqb (get_or t (length t - 1) 0) 32

-- whether a text has 0 to 6 letters and no trailing space
abbrev pub good_text : List ℕ → Bool
good_text t = leb (length t) 6 && (not (ends_in_space t) && all_letters t)

-- the code of letter i of a text; past the text's end stand spaces
abbrev pub code_at : List ℕ → ℕ → ℕ
code_at t i = get_or (map code_of t) i 0

-- the word of the three letters of a text from letter i on
unfoldable pub word_from : List ℕ → ℕ → ℕ
word_from t i = word_of (code_at t i) (code_at t (i + 1)) (code_at t (i + 2))

-- what a text packs to: two words, or 12 at place 0
unfoldable pub packed : List ℕ → Result Name Refusal
packed t = cond (good_text t) (packed_to (word_from t 0) (word_from t 3)) (refused_with 12 0)

-- a code put before others; a space with none after it is at the end, and is dropped
abbrev pub before : ℕ → List ℕ → List ℕ
before c [] = cond (eqb c 0) [] (c ∷ [])
before c (d ∷ rest) = c ∷ d ∷ rest

-- codes without the spaces at their end
abbrev pub kept : List ℕ → List ℕ
kept [] = []
kept (c ∷ rest) = before c (kept rest)

-- the text of six codes: their letters, without the spaces at the end
unfoldable pub text_in : Codes → Codes → List ℕ
text_in l m = map letter_of (kept (l.a ∷ l.b ∷ l.c ∷ m.a ∷ m.b ∷ m.c ∷ []))

-- the text of two words
abbrev pub text_of : ℕ → ℕ → List ℕ
text_of first second = text_in (letters_of first) (letters_of second)

-- a text as an answer: its length, and its letters with zeros up to six bytes
unfoldable pub text_answer : List ℕ → Unpacked
text_answer t = record { length = length t; letters = t ++ replicate (6 - length t) 0 }

-- what two words unpack to: their text, or 12 at place 0 with six zeros
unfoldable pub unpacked : ℕ → ℕ → Result Unpacked NoText
unpacked first second = cond (name_ok first second) (Ok (text_answer (text_of first second))) (no_text_with 12 0 (replicate 6 0))

-- the numbers of each answer of packing: 0 and the two words, or the refusal's number and place
abbrev pub packed_numbers : Result Name Refusal → List ℕ
packed_numbers (Ok name) = 0 ∷ name.first ∷ name.second ∷ []
packed_numbers (Err refusal) = refusal.number ∷ refusal.place ∷ []

-- the numbers of each answer of unpacking: 0 and the text's length, or the refusal's number and place
abbrev pub unpacked_numbers : Result Unpacked NoText → List ℕ
unpacked_numbers (Ok text) = 0 ∷ text.length ∷ []
unpacked_numbers (Err none) = none.refusal.number ∷ none.refusal.place ∷ []
