-- Accepted elements of a type that is written rewrite to the same bytes (RULES.md, "Three demands").
use Prim.Native.Nat.{ℕ, ◌+◌, ◌*◌, ◌≤◌}
use mathlib.Core.Path.{◌≡◌, refl, sym, ap, ◌∙◌}
use mathlib.Core.List.{List}
use native.Mathlib.Omega.{arith}
use lib.ListN.{length, take, drop}
use lib.Seq.{take_at}
use Rattle.std.specs.Prelude.{Ok}
use Rattle.words.specs.Words.{words, bytes, over}
use Rattle.words.proofs.Laws.{length_bytes}
use Rattle.headers.specs.Header.{size_at}
use Rattle.grammar.proofs.Stands.{Stands}
use Rattle.fields.proofs.Element.{Formed, length_of, formed}
use Rattle.fields.proofs.Writable.{writable_none}
use Rattle.text_fields.proofs.Element as text
use Rattle.text_fields.proofs.Writable as texts
use Rattle.round_trips.specs.Parts.{Parts, with_points, with_text, fields_of, tail_of, size_by, fault_by}
use Rattle.round_trips.specs.RoundTrip.{Given, Rewrites}
use Rattle.round_trips.proofs.Extents.{part_bytes}
use Rattle.round_trips.proofs.Made.{body_of, words_by, writes_by}
use Rattle.round_trips.proofs.Rewrite.{size_seen, ends_by, size_again}
use Rattle.round_trips.proofs.RewritePoints as points
use Rattle.round_trips.proofs.RewriteText as letters

-- its words stand at its place, and the call that makes them is not refused, given room
record Remade (dim : ℕ) (s : List ℕ) (at : ℕ) (p : Parts) : Type 0 where
  formed : Formed dim (fields_of p) (size_by dim p) (body_of dim p) (tail_of p)
  size : size_by dim p ≡ size_at (words s) at
  stands : Stands (words_by dim p) at (words s)
  fine : (room : ℕ) → 2 * size_at (words s) at ≤ room → fault_by dim p room ≡ 0

remade : (dim : ℕ) (s : List ℕ) (at : ℕ) (p : Parts) → Given dim s at p → Remade dim s at p
remade dim s at (with_points f ps tail) g = record {
  formed = formed dim f ps tail (points.call g);
  size = size_again g (points.fixed_same g);
  stands = points.points_stand_again g;
  fine = λ room h. writable_none (points.points_writable g room h);
}
remade dim s at (with_text f t characters triples tail) g = record {
  formed = text.formed dim f t characters triples tail (letters.text_call_again g);
  size = size_again g (letters.fixed_same g);
  stands = letters.text_stands_again g;
  fine = λ room h. texts.writable_none (letters.text_writable g room h);
}

module _ {dim : ℕ} {s : List ℕ} {at : ℕ} {p : Parts} (g : Given dim s at p) (m : Remade dim s at p) where
  length_again : length (words_by dim p) ≡ g.element.size
  length_again = length_of m.formed ∙ m.size ∙ size_seen g

  bytes_again : bytes (words_by dim p) ≡ take (2 * g.element.size) (drop (2 * at) s)
  bytes_again =
      let e = ends_by g in
      let z = size_seen g in
      ap bytes (sym m.stands.is ∙ ap (λ n. take n (drop at (words s))) length_again)
      ∙ part_bytes s at g.element.size g.file_bytes (omega arith)

pub rewrites : Rewrites
unfolding over
rewrites dim s at p out r last g room wrote =
    let own = words_by dim p in
    let m = remade dim s at p g in
    let w = writes_by dim p out r last wrote in
    let z = size_seen g in
    let none : fault_by dim p (length out) ≡ 0 = m.fine (length out) (omega arith) in
    let l : length (bytes (words_by dim p)) ≡ 2 * g.element.size = let a = length_bytes own in let b = length_again g m in omega arith in
    record {
      answer = w.answer ∙ rw none (ap Ok (m.size ∙ size_seen g));
      same = ap (take (2 * g.element.size)) (w.bytes ∙ rw none refl) ∙ take_at (bytes own) (drop (0 + length (bytes own)) out) (2 * g.element.size) l ∙ bytes_again g m;
    }
