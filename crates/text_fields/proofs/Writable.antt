-- No fault is that every test of the call passes.
use Prim.Native.Nat.{ℕ, ◌*◌, ◌≤◌}
use mathlib.Core.Path.{◌≡◌, refl}
use mathlib.Core.Bool.{true}
use mathlib.Core.List.{List}
use lib.ListN.{length}
use borrow.Author.Tests.{leb-true, le-leb}
use Rattle.headers.proofs.Checks.{pass_all}
use Rattle.elements.specs.Attributes.{linkages_ok}
use Rattle.fields.specs.declared.Fields.{Fields}
use Rattle.text_fields.specs.declared.Text.{Text}
use Rattle.text_fields.specs.Words.{text_size, text_words}
use Rattle.text_fields.specs.Faults.{triples_ok, text_checks, text_fault}
use Rattle.text_fields.proofs.Bounds.{Called, called, called_ok}

-- all tests of a call pass
pub record Writable (dim : ℕ) (f : Fields) (t : Text) (characters triples tail : List ℕ) (room : ℕ) : Type 0 where
  pub call : Called dim f t (length characters) (length triples) (length tail)
  pub fields : triples_ok (length characters) triples ≡ true
  pub size : text_size dim characters triples tail ≤ 65535
  pub linkages : linkages_ok dim (text_words dim f t characters triples tail) 0 ≡ true
  pub fits : 2 * text_size dim characters triples tail ≤ room

module _ {dim : ℕ} {f : Fields} {t : Text} {characters triples tail : List ℕ} {room : ℕ} where
  pub writable : text_fault dim f t characters triples tail room ≡ 0 → Writable dim f t characters triples tail room
  unfolding text_fault
  writable e =
      let p = pass_all (text_checks dim f t characters triples tail room) refl e in
      record {
        call = called p.0;
        fields = p.1.0;
        size = leb-true (text_size dim characters triples tail) 65535 p.1.1.0;
        linkages = p.1.1.1.0;
        fits = leb-true (2 * text_size dim characters triples tail) room p.1.1.1.1.0;
      }

  pub writable_none : Writable dim f t characters triples tail room → text_fault dim f t characters triples tail room ≡ 0
  unfolding text_fault
  writable_none w =
      rw (
        called_ok w.call,
        w.fields,
        le-leb (text_size dim characters triples tail) 65535 w.size,
        w.linkages,
        le-leb (2 * text_size dim characters triples tail) room w.fits,
      )
      refl
