-- What the C interface's functions that write an element are handed and what they leave. The header fields are a slice of
-- sixteen numbers, in the order type, level, C, deleted, low x y z, high x y z, graphic group, attribute index, properties,
-- style, weight, colour.
use Rattle.std.specs.Prelude.{ℕ, ◌%◌, ◌≡◌, Bool, cond, ◌&&◌, List, [], ◌∷◌, length, get_or, eqb, leb, ℤ, pos, negsuc, Err, None, Ok, Option, Result, Some}
use Rattle.fields.specs.declared.Fields.{Fields}
use Rattle.writer.specs.Writing.{written_by, bytes_by}
use Rattle.answers.specs.Answers.{Reply, done, refuse, Replied}
use Rattle.refusals.specs.declared.Refusal.{Refusal}

-- number i of a slice
abbrev pub number_at : List ℤ → ℕ → ℤ
number_at l i = get_or l i (pos 0)

-- a number that is not negative; any other stands for 4294967296, which is in the range of no field
abbrev pub natural : ℤ → ℕ
natural (pos n) = n
natural (negsuc n) = 4294967296

abbrev pub natural_at : List ℤ → ℕ → ℕ
natural_at l i = natural (number_at l i)

-- sixteen numbers, C and deleted 0 or 1
unfoldable pub fields_given : List ℤ → Bool
fields_given f = eqb (length f) 16 && (leb (natural_at f 2) 1 && leb (natural_at f 3) 1)

-- the header fields; only the coordinates of the range may be negative
abbrev pub fields_of : List ℤ → Fields
fields_of f = record {
  kind = natural_at f 0;
  level = natural_at f 1;
  c = eqb (natural_at f 2) 1;
  deleted = eqb (natural_at f 3) 1;
  low_x = number_at f 4;
  low_y = number_at f 5;
  low_z = number_at f 6;
  high_x = number_at f 7;
  high_y = number_at f 8;
  high_z = number_at f 9;
  group = natural_at f 10;
  index = natural_at f 11;
  properties = natural_at f 12;
  style = natural_at f 13;
  weight = natural_at f 14;
  colour = natural_at f 15;
}

abbrev pub given_in : List ℤ → Option Fields
given_in f = cond (fields_given f) (Some (fields_of f)) None

-- the words written, or the refusal
abbrev pub write_reply : Result ℕ Refusal → Reply ℕ
write_reply (Ok words) = done (words ∷ [])
write_reply (Err refusal) = refuse refusal.number refusal.place

-- the same of any number and place, cut to 8 and 56 bits, which one number holds; no refusal of the writer loses by it
-- (`small_cut`)
abbrev pub cut_reply : Result ℕ Refusal → Reply ℕ
cut_reply (Ok words) = write_reply (Ok words)
cut_reply (Err refusal) = refuse (refusal.number % 256) (refusal.place % 72057594037927936)

-- the number that is returned, the answer slice and the buffer as they then are, by the number of the first fault and by the
-- size and the words of the element; with no room for the answer both stay
pub record WroteBy (fault size : ℕ) (ws buffer out : List ℕ) (n : ℕ) (last t : List ℕ) : Type 0 where
  pub answer : Replied 1 (write_reply (written_by fault size)) out n t
  pub bytes : last ≡ cond (leb 1 (length out)) (bytes_by fault ws buffer) buffer
