-- The two round trips (demand 2): what is written reads back the same, and accepted elements of a type
-- that is written rewrite to the same bytes.
use Rattle.std.specs.Prelude.{ℕ, ◌+◌, ◌*◌, ◌≤◌, ◌<◌, ◌≡◌, Bool, true, false, length, take, drop, ℤ, Ok, Result}
use mathlib.Core.List.{List, [], ◌∷◌, Memᴰ}
use Rattle.std.proofs.Math.Option.{Option, none, some}
use Rattle.std.specs.Int.Signed.{mag}
use Rattle.words.specs.Words.{words, bytes, Below}
use Rattle.kinds.specs.Kinds.{may_stand}
use Rattle.headers.specs.Header.{type_at}
use Rattle.files.specs.Judge.{judge_of}
use Rattle.files.specs.Spots.{Spot, spots_of}
use Rattle.views.specs.declared.Element.{Element}
use Rattle.places.specs.Places.{above_of}
use Rattle.views.specs.Views.{view_of}
use Rattle.points_linkages.specs.Linkages.{linkage_of}
use Rattle.edits.specs.Edits.{insert, apply, down_to}
use Rattle.edits.specs.Allowed.{fine, gap_ok, room_fault, depth_under, type_under}
use Rattle.writer.specs.Writing.{Writes}
use Rattle.text_writer.specs.Writing.{WritesText}
use Rattle.files.specs.Accepted.{accepted_with}
use Rattle.refusals.specs.declared.Refusal.{Refusal}
use Rattle.round_trips.specs.Parts.{Parts, with_points, with_text, fields_of, tail_of, is_kind_of, is_written_kind, size_by, fault_by, Shows, GivesBody, tail_read, tail_linkage}

-- a file of bytes that judging accepts, its marker the last word
pub record AcceptedBytes (dim : ℕ) (s : List ℕ) : Type 0 where
  pub elements : ℕ
  pub deepest : ℕ
  pub marker : ℕ
  pub judged : judge_of dim s ≡ accepted_with elements deepest marker
  pub last : marker + 1 ≡ length (words s)
  pub file_bytes : Below 256 s

---- what is written reads back the same

-- coordinates are signed longs, -2147483648 to 2147483647 (mag is n of n and of -1 - n)
abbrev pub Longs : List ℤ → Type 0
Longs [] = Unit {0}
Longs (z ∷ zs) = (mag z < 2147483648) × Longs zs

-- the coordinates that are handed in, and the bytes
abbrev pub coordinates_of : Parts → List ℤ
coordinates_of (with_points f points tail) = points
coordinates_of (with_text f t characters triples tail) = t.x ∷ t.y ∷ t.z ∷ []

abbrev pub Bytes : Parts → Type 0
Bytes (with_points f points tail) = Below 256 tail
Bytes (with_text f t characters triples tail) = Below 256 characters × (Below 256 triples × Below 256 tail)

-- what is handed to the writer, and not refused where the buffer is long enough
pub record Handed (dim : ℕ) (p : Parts) : Type 0 where
  pub coordinates : Longs (coordinates_of p)
  pub bytes : Bytes p
  pub not_refused : fault_by dim p (2 * size_by dim p) ≡ 0

-- the call that takes them: what it answers and leaves in the buffer
abbrev pub WritesParts : ℕ → Parts → List ℕ → Result ℕ Refusal → List ℕ → Type 0
WritesParts dim (with_points f points tail) = Writes dim f points tail
WritesParts dim (with_text f t characters triples tail) = WritesText dim f t characters triples tail

-- C as the place asks: clear at the top, set under a header
abbrev pub under : Option ℕ → Bool
under none = false
under (some h) = true

-- where the element is put: at the top of an accepted file, or under a header that its type may stand under, at a place
-- where a direct component starts or the list ends, not too deep, and with room in the headers around it and in the file
pub record Place (dim : ℕ) (s : List ℕ) (h : Option ℕ) (p : ℕ) (c : Bool) (kind size : ℕ) : Type 0 where
  pub file : AcceptedBytes dim s
  pub gap : gap_ok (spots_of dim (words s)) (words s) h p ≡ true
  pub stands : may_stand dim (type_under (words s) h) kind ≡ true
  pub as_c_says : c ≡ under h
  pub deep : depth_under (spots_of dim (words s)) h ≤ 8
  pub room : room_fault size (words s) (down_to (spots_of dim (words s)) h) ≡ fine
  pub small : 2 * (length (words s) + size) ≤ 1048576

-- what reading then gives: the file s is accepted; view, points or text, linkages and tail are those handed in
pub record ReadBack (dim : ℕ) (s : List ℕ) (h : Option ℕ) (at : ℕ) (p : Parts) : Type 0 where
  pub file : AcceptedBytes dim s
  pub element : Element
  pub seen : view_of dim s at ≡ Ok element
  pub shows : Shows element (fields_of p)
  pub size : element.size ≡ size_by dim p
  pub above : element.above ≡ above_of h
  pub gives_body : GivesBody dim s at p
  pub gives_linkages : (k : ℕ) → linkage_of dim s at k ≡ tail_linkage dim p at k
  pub gives_tail : tail_read dim s at p ≡ tail_of p

-- written into a buffer that has room, the element is made, and what the buffer then begins with is put into a file
abbrev pub ReadsBack : Type 0
ReadsBack =
    (dim : ℕ) (s : List ℕ) (h : Option ℕ) (at : ℕ) (p : Parts) (out : List ℕ) (r : Result ℕ Refusal) (last : List ℕ) →
    Handed dim p → Place dim s h at (fields_of p).c (fields_of p).kind (size_by dim p) →
    2 * size_by dim p ≤ length out → WritesParts dim p out r last →
    (r ≡ Ok (size_by dim p))
    × ReadBack dim (bytes (apply dim (words s) (insert h at (words (take (2 * size_by dim p) last))))) h at p

---- accepted elements rewrite to the same bytes

-- what the reading calls give of an element of a type that is written, in an accepted file
pub record Given (dim : ℕ) (s : List ℕ) (at : ℕ) (p : Parts) : Type 0 where
  pub elements : ℕ
  pub deepest : ℕ
  pub marker : ℕ
  pub judged : judge_of dim s ≡ accepted_with elements deepest marker
  pub file_bytes : Below 256 s
  pub element : Element
  pub seen : view_of dim s at ≡ Ok element
  pub written_kind : is_kind_of p element.kind ≡ true
  pub shows : Shows element (fields_of p)
  pub gives_body : GivesBody dim s at p
  pub gives_tail : tail_read dim s at p ≡ tail_of p

-- writing them into a buffer that has room answers the element's size, and the buffer begins with the element's bytes
pub record Rewritten (s : List ℕ) (at size : ℕ) (r : Result ℕ Refusal) (last : List ℕ) : Type 0 where
  pub answer : r ≡ Ok size
  pub same : take (2 * size) last ≡ take (2 * size) (drop (2 * at) s)

abbrev pub Rewrites : Type 0
Rewrites =
    (dim : ℕ) (s : List ℕ) (at : ℕ) (p : Parts) (out : List ℕ) (r : Result ℕ Refusal) (last : List ℕ) →
    (g : Given dim s at p) → 2 * g.element.size ≤ length out → WritesParts dim p out r last →
    Rewritten s at g.element.size r last

-- there are such parts of each element of a type that is written, in each accepted file of bytes
pub record HasParts (dim : ℕ) (s : List ℕ) (at : ℕ) : Type 0 where
  pub parts : Parts
  pub given : Given dim s at parts

abbrev pub EveryGiven : Type 0
EveryGiven =
    (dim : ℕ) (s : List ℕ) (e d m : ℕ) (x : Spot) → judge_of dim s ≡ accepted_with e d m → Below 256 s →
    Memᴰ x (spots_of dim (words s)) → is_written_kind (type_at (words s) x.place) ≡ true → HasParts dim s x.place
