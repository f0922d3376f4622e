-- The parts of an element of a type that is written, as the reading calls give them and as the writers take them: header fields,
-- points or what a text has, tail and linkages. s are a file's bytes, at is the element's place.
use Rattle.std.specs.Prelude.{ℕ, zero, suc, ◌+◌, ◌-◌, ◌*◌, ◌/◌, ◌%◌, ◌≡◌, Bool, true, cond, ◌||◌, List, [], ◌∷◌, ◌++◌, length, drop, eqb, ℤ, pos, negsuc, Err, None, Ok, Option, Result, Some}
use Rattle.words.specs.Words.{words}
use Rattle.linkages.specs.Linkages.{linkage_in}
use Rattle.texts.specs.Texts.{text_part}
use Rattle.kinds.specs.Kinds.{fixed_part}
use Rattle.views.specs.declared.Element.{Element}
use Rattle.places.specs.Extents.{extent_bytes}
use Rattle.points_linkages.specs.Points.{point_of}
use Rattle.points_linkages.specs.Coordinates.{points_from}
use Rattle.text_views.specs.TextViews.{text_of, character_bytes, field_of}
use Rattle.turns.specs.declared.Turn.{Turn}
use Rattle.turns.specs.declared.Turn.TheVariants as turns
use Rattle.text_views.specs.declared.Origin.{Origin}
use Rattle.text_views.specs.declared.Origin.TheVariants as origins
use Rattle.text_views.specs.declared.Text as shown
use Rattle.fields.specs.Words.{points_in, size_of}
use Rattle.fields.specs.Faults.{is_written, write_fault}
use Rattle.fields.specs.declared.Fields.{Fields}
use Rattle.text_fields.specs.Words.{counts_of, text_size}
use Rattle.text_fields.specs.Faults.{flat_ok, odd_ok, text_fault}
use Rattle.text_fields.specs.declared.Text.{Text}
use Rattle.linkages.specs.Linkage.{attribute_with}
use Rattle.linkages.specs.declared.Linkage.{Linkage}
use Rattle.refusals.specs.Refusals.{refused_with}
use Rattle.refusals.specs.declared.Refusal.{Refusal}
use Rattle.text_views.specs.declared.Field.{Field}
use Rattle.views.specs.Display.{display_with}
use Rattle.views.specs.Range.{longs_with}

---- what is written

-- an element with points: its header fields, its points and its tail; or a text: its header fields, its numbers, its characters,
-- its fields as triples of bytes, and its tail
pub data Parts : Type 0 where
  with_points : (f : Fields) (points : List ℤ) (tail : List ℕ) → Parts
  with_text : (f : Fields) (t : Text) (characters triples tail : List ℕ) → Parts

abbrev pub fields_of : Parts → Fields
fields_of (with_points f points tail) = f
fields_of (with_text f t characters triples tail) = f

abbrev pub tail_of : Parts → List ℕ
tail_of (with_points f points tail) = tail
tail_of (with_text f t characters triples tail) = tail

-- the types of each, and of both
abbrev pub is_kind_of : Parts → ℕ → Bool
is_kind_of (with_points f points tail) kind = is_written kind
is_kind_of (with_text f t characters triples tail) kind = eqb kind 17

abbrev pub is_written_kind : ℕ → Bool
is_written_kind kind = is_written kind || eqb kind 17

-- where the tail begins, counted from the element's start: behind the fixed part
abbrev pub tail_place : ℕ → Parts → ℕ
tail_place dim (with_points f points tail) = fixed_part dim f.kind (points_in dim points)
tail_place dim (with_text f t characters triples tail) = text_part dim (counts_of characters triples)

-- how many words they make, and the number of the first fault with a buffer of so many bytes
abbrev pub size_by : ℕ → Parts → ℕ
size_by dim (with_points f points tail) = size_of dim f points tail
size_by dim (with_text f t characters triples tail) = text_size dim characters triples tail

abbrev pub fault_by : ℕ → Parts → ℕ → ℕ
fault_by dim (with_points f points tail) room = write_fault dim f points tail room
fault_by dim (with_text f t characters triples tail) room = text_fault dim f t characters triples tail room

---- what is read

-- a view shows these header fields
pub record Shows (e : Element) (f : Fields) : Type 0 where
  pub level : e.level ≡ f.level
  pub c : e.c ≡ f.c
  pub kind : e.kind ≡ f.kind
  pub deleted : e.deleted ≡ f.deleted
  pub range : e.range ≡ longs_with f.low_x f.low_y f.low_z f.high_x f.high_y f.high_z
  pub display : e.display ≡ display_with f.group f.index f.properties f.style f.weight f.colour

-- the calls for points give these coordinates, and 13 for the number after the last
pub record GivesPoints (dim : ℕ) (s : List ℕ) (at : ℕ) (points : List ℤ) : Type 0 where
  pub all : points_from (points_in dim points) 0 dim s at ≡ points
  pub no_more : point_of dim s at (points_in dim points) ≡ refused_with 13 0

-- how the numbers of a text are read in a file of 2 or 3 dimensions: its turn, its origin, and the byte behind an odd number
-- of bytes of characters and fields
abbrev pub turn_read : ℕ → Text → Turn
turn_read dim t = cond (eqb dim 2) (turns.Flat t.first) (turns.Solid t.first t.second t.third t.fourth)

abbrev pub origin_read : ℕ → Text → Origin
origin_read dim t = cond (eqb dim 2) (origins.Flat t.x t.y) (origins.Solid t.x t.y t.z)

abbrev pub odd_read : Text → ℕ → Option ℕ
odd_read t n = cond (eqb (n % 2) 1) (Some t.odd) None

-- a text that is read shows these numbers, with c characters and n bytes of fields; of those handed in, the ones that it does
-- not have are 0
pub record ShowsText (dim : ℕ) (e : shown.Text) (t : Text) (c n : ℕ) : Type 0 where
  pub font : e.font ≡ t.font
  pub justification : e.justification ≡ t.justification
  pub length : e.length ≡ t.length
  pub height : e.height ≡ t.height
  pub turn : e.turn ≡ turn_read dim t
  pub origin : e.origin ≡ origin_read dim t
  pub characters : e.characters ≡ c
  pub fields : 3 * e.fields ≡ n
  pub odd : e.odd ≡ odd_read t (c + n)
  pub no_third : flat_ok dim t ≡ true
  pub no_odd : odd_ok t (c + n) ≡ true

-- a justification as the byte that is stored; -1 is 255
abbrev pub justification_byte : ℤ → ℕ
justification_byte (pos n) = n
justification_byte (negsuc n) = 255 - n

-- the three bytes of a field
abbrev pub triple : Result Field Refusal → List ℕ
triple (Ok field) = field.first ∷ field.length ∷ justification_byte field.justification ∷ []
triple (Err refusal) = []

-- those of n fields from number k on, one call for each
unfoldable pub triples_from : ℕ → ℕ → ℕ → List ℕ → ℕ → List ℕ
triples_from zero k dim s at = []
triples_from (suc n) k dim s at = triple (field_of dim s at k) ++ triples_from n (k + 1) dim s at

-- the calls for a text give these numbers, these characters and these fields, and 13 for the number after the last field
pub record GivesText (dim : ℕ) (s : List ℕ) (at : ℕ) (t : Text) (characters triples : List ℕ) : Type 0 where
  pub text : shown.Text
  pub read : text_of dim s at ≡ Ok text
  pub shows : ShowsText dim text t (length characters) (length triples)
  pub all_characters : character_bytes dim s at ≡ characters
  pub all_fields : triples_from (length triples / 3) 0 dim s at ≡ triples
  pub no_more : field_of dim s at (length triples / 3) ≡ refused_with 13 0

-- what lies between header and tail
abbrev pub GivesBody : ℕ → List ℕ → ℕ → Parts → Type 0
GivesBody dim s at (with_points f points tail) = GivesPoints dim s at points
GivesBody dim s at (with_text f t characters triples tail) = GivesText dim s at t characters triples

-- the tail that reading gives: of the bytes of the extent, which of a written type is the element, all after the fixed part
abbrev pub tail_read : ℕ → List ℕ → ℕ → Parts → List ℕ
tail_read dim s at p = drop (2 * tail_place dim p) (extent_bytes dim s at)

-- a linkage of a tail that begins at a place of the file
abbrev pub linkage_moved : ℕ → Option Linkage → Result Linkage Refusal
linkage_moved from (Some linkage) = attribute_with linkage.user (from + linkage.place) linkage.size linkage.id
linkage_moved from None = refused_with 13 0

-- linkage k of a tail, which begins at word n of its element, handed in with its fields: with A set those from word 16 + index
-- on, else none
unfoldable pub linkage_by : Fields → ℕ → List ℕ → ℕ → ℕ → Result Linkage Refusal
linkage_by f n tail at k =
    cond (eqb (f.properties / 2048 % 2) 1)
    (linkage_moved (at + n) (linkage_in (words tail) (16 + f.index - n) (length tail / 2) k))
    (refused_with 13 0)

abbrev pub tail_linkage : ℕ → Parts → ℕ → ℕ → Result Linkage Refusal
tail_linkage dim p at k = linkage_by (fields_of p) (tail_place dim p) (tail_of p) at k
