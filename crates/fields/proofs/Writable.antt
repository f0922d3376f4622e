-- No fault is that every test of the call passes.
use Prim.Native.Nat.{ℕ, suc, ◌*◌, ◌≤◌}
use mathlib.Core.Path.{◌≡◌, refl}
use mathlib.Core.Bool.{Bool, true, false}
use mathlib.Core.List.{List}
use native.Mathlib.Omega.{arith}
use lib.ListN.{length}
use lib.IntN.{ℤ}
use lib.Dec.{leb}
use borrow.Author.Tests.{leb-true, le-leb}
use Rattle.elements.specs.Attributes.{linkages_ok}
use Rattle.fields.specs.Words.{points_in, size_of, element_words}
use Rattle.fields.specs.Faults.{arguments_ok, point_number_ok, write_fault}
use Rattle.fields.specs.declared.Fields.{Fields}
use Rattle.fields.proofs.Bounds.{Called, called, called_ok}

-- all tests of a call pass
pub record Writable (dim : ℕ) (f : Fields) (ps : List ℤ) (tail : List ℕ) (room : ℕ) : Type 0 where
  pub call : Called dim f (length ps) (length tail)
  pub count : point_number_ok f.kind (points_in dim ps) ≡ true
  pub size : size_of dim f ps tail ≤ 65535
  pub linkages : linkages_ok dim (element_words dim f ps tail) 0 ≡ true
  pub fits : 2 * size_of dim f ps tail ≤ room

-- a test whose failure is a fault passes where there is none
passed : (b : Bool) (r n : ℕ) → r ≡ 0 → (b ≡ false → r ≡ suc n) → b ≡ true
passed true r n e h = refl
passed false r n e h = let z = h refl in absurd (omega arith)

module _ {dim : ℕ} {f : Fields} {ps : List ℤ} {tail : List ℕ} {room : ℕ} where
  pub writable : write_fault dim f ps tail room ≡ 0 → Writable dim f ps tail room
  unfolding write_fault
  writable e =
      let r = write_fault dim f ps tail room in
      let a = passed (arguments_ok dim f (length ps) (length tail)) r 0 e (λ z. rw z refl) in
      let b = passed (point_number_ok f.kind (points_in dim ps)) r 6 e (λ z. rw (a, z) refl) in
      let c = passed (leb (size_of dim f ps tail) 65535) r 7 e (λ z. rw (a, b, z) refl) in
      let d = passed (linkages_ok dim (element_words dim f ps tail) 0) r 10 e (λ z. rw (a, b, c, z) refl) in
      let g = passed (leb (2 * size_of dim f ps tail) room) r 14 e (λ z. rw (a, b, c, d, z) refl) in
      record {
        call = called a;
        count = b;
        size = leb-true (size_of dim f ps tail) 65535 c;
        linkages = d;
        fits = leb-true (2 * size_of dim f ps tail) room g;
      }

  pub writable_none : Writable dim f ps tail room → write_fault dim f ps tail room ≡ 0
  unfolding write_fault
  writable_none w =
      rw (
        called_ok w.call,
        w.count,
        le-leb (size_of dim f ps tail) 65535 w.size,
        w.linkages,
        le-leb (2 * size_of dim f ps tail) room w.fits,
      )
      refl
