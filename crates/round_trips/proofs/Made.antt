-- What is handed in and not refused, as an element: its words are those of its header, its body and its tail, by themselves an
-- element, and where they stand in a file, the calls for points or for a text give what was handed in.
use Prim.Native.Nat.{ℕ, ◌+◌, ◌*◌, ◌≤◌}
use mathlib.Core.Path.{◌≡◌, ◌∙◌}
use mathlib.Core.Bool.{true}
use mathlib.Core.List.{List, [], ◌∷◌}
use lib.ListN.{length}
use lib.IntN.{ℤ}
use Rattle.std.specs.Prelude.{Result}
use Rattle.words.specs.Words.{words, Below}
use Rattle.limits.specs.Limits.{dim_ok}
use Rattle.grammar.proofs.Stands.{Stands}
use Rattle.places.specs.declared.Above.{Above}
use Rattle.places.specs.Places.{spotted_at}
use Rattle.fields.specs.Words.{size_of, point_words, element_of, element_words}
use Rattle.fields.specs.Faults.{write_fault}
use Rattle.fields.specs.declared.Fields.{Fields}
use Rattle.fields.proofs.Element.{length_body}
use Rattle.fields.proofs.Writable.{writable, writable_none}
use Rattle.writer.specs.Writing.{WritesBy}
use Rattle.text_fields.specs.Words.{text_body, text_size, text_words}
use Rattle.text_fields.specs.Faults.{text_fault}
use Rattle.text_fields.specs.declared.Text.{Text}
use Rattle.text_fields.proofs.Element as body
use Rattle.text_fields.proofs.Writable as text
use Rattle.places.specs.Spotted.{spotted_with}
use Rattle.refusals.specs.declared.Refusal.{Refusal}
use Rattle.round_trips.specs.Parts.{Parts, with_points, with_text, fields_of, tail_of, tail_place, size_by, fault_by, GivesBody}
use Rattle.round_trips.specs.RoundTrip.{Longs, Handed, WritesParts}
use Rattle.round_trips.proofs.Own.{Owned, written_below}
use Rattle.round_trips.proofs.OwnPoints.{points_below, owned_points}
use Rattle.round_trips.proofs.OwnText.{text_below, text_call, owned_text}
use Rattle.round_trips.proofs.Local.{type_there}
use Rattle.round_trips.proofs.ReadPoints.{points_given}
use Rattle.round_trips.proofs.ReadText.{text_given}

-- the rest of the fixed part, behind the header
abbrev pub body_of : ℕ → Parts → List ℕ
body_of dim (with_points f points tail) = point_words dim f.kind points
body_of dim (with_text f t characters triples tail) = text_body dim t characters triples

abbrev pub words_by : ℕ → Parts → List ℕ
words_by dim p = element_of (fields_of p) (size_by dim p) (body_of dim p) (tail_of p)

pub record Made (dim : ℕ) (p : Parts) : Type 0 where
  pub dims : dim_ok dim ≡ true
  pub owned : Owned dim (fields_of p) (size_by dim p) (body_of dim p) (tail_of p)
  pub place : 18 + length (body_of dim p) ≡ tail_place dim p
  pub below : Below 65536 (words_by dim p)
  pub tail_bytes : Below 256 (tail_of p)
  pub fine : (room : ℕ) → 2 * size_by dim p ≤ room → fault_by dim p room ≡ 0
  pub gives : (s : List ℕ) (at end depth : ℕ) (above : Above) → Below 256 s → spotted_at dim s at ≡ spotted_with end depth above → Stands (words_by dim p) at (words s) → GivesBody dim s at p

made_points : (dim : ℕ) (f : Fields) (ps : List ℤ) (tail : List ℕ) → Longs ps → Below 256 tail → write_fault dim f ps tail (2 * size_of dim f ps tail) ≡ 0 → Made dim (with_points f ps tail)
made_points dim f ps tail l b none =
    let w = writable none in
    let o = owned_points w in
    record {
      dims = w.call.dims;
      owned = o;
      place = length_body dim f ps tail w.call;
      below = written_below o.formed w.size (points_below w l) b;
      tail_bytes = b;
      fine = λ room fits. writable_none (record { call = w.call; count = w.count; size = w.size; linkages = w.linkages; fits = fits });
      gives = λ s at end depth above c found stands. points_given w s stands found l;
    }

made_text : (dim : ℕ) (f : Fields) (t : Text) (characters triples tail : List ℕ) → Longs (t.x ∷ t.y ∷ t.z ∷ []) → Below 256 characters → Below 256 triples → Below 256 tail →
    text_fault dim f t characters triples tail (2 * text_size dim characters triples tail) ≡ 0 → Made dim (with_text f t characters triples tail)
made_text dim f t characters triples tail l p q b none =
    let w = text.writable none in
    let o = owned_text w l p q b in
    let c = text_call w l p q b in
    record {
      dims = w.call.dims;
      owned = o;
      place = body.length_body dim f t characters triples tail w.call;
      below = written_below o.formed w.size (text_below c l p q) b;
      tail_bytes = b;
      fine = λ room fits. text.writable_none (record { call = w.call; fields = w.fields; size = w.size; linkages = w.linkages; fits = fits });
      gives = λ s at end depth above small found stands. text_given c l p q s small stands found (type_there o stands ∙ w.call.kind);
    }

pub made : (dim : ℕ) (p : Parts) → Handed dim p → Made dim p
made dim (with_points f ps tail) h = made_points dim f ps tail h.coordinates h.bytes h.not_refused
made dim (with_text f t characters triples tail) h =
    let b = h.bytes in
    made_text dim f t characters triples tail h.coordinates b.0 b.1.0 b.1.1 h.not_refused

-- the call writes these words
pub writes_by : (dim : ℕ) (p : Parts) (out : List ℕ) (r : Result ℕ Refusal) (last : List ℕ) → WritesParts dim p out r last →
    WritesBy (fault_by dim p (length out)) (size_by dim p) (words_by dim p) out r last
unfolding element_words text_words
writes_by dim (with_points f ps tail) out r last w = w
writes_by dim (with_text f t characters triples tail) out r last w = w
