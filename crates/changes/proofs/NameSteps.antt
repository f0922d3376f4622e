-- A name by its place: where it stands, the words that are read there and those that are stored.
use Prim.Native.Nat.{ℕ, ◌+◌, ◌≤◌}
use mathlib.Core.Path.{◌≡◌, refl, sym, ◌∙◌}
use mathlib.Core.List.{List}
use native.Mathlib.Omega.{arith}
use lib.ListN.{length}
use borrow.Author.Tests.{eq-eqb, ne_eqb}
use Rattle.words.specs.Words.{words, word_at, put_word}
use Rattle.words.proofs.Laws.{length_put, put_out, word_out}
use Rattle.kinds.proofs.Types.{name_early}
use Rattle.headers.specs.Header.{type_at, name_place}
use Rattle.changes.specs.CellNames.{name_put, name_bytes, cell_name}

module _ (ws : List ℕ) (p : ℕ) where
  pub name_library : type_at ws p ≡ 1 → p + 16 ≡ name_place ws p
  name_library e = rw (eq-eqb (type_at ws p) 1 e) refl

  pub name_cell : (type_at ws p ≡ 1 → ⊥) → p + 19 ≡ name_place ws p
  name_cell e = rw (ne_eqb (type_at ws p) 1 e) refl

  pub name_near : (p ≤ name_place ws p) × (name_place ws p ≤ p + 19)
  name_near = let e = name_early (type_at ws p) in (omega arith, omega arith)

module _ (p : ℕ) (s : List ℕ) where
  pub name_read : (at a b : ℕ) (r : List ℕ) → at ≡ name_place (words s) p → a ≡ word_at (words s) at → b ≡ word_at (words s) (at + 1) → r ≡ name_bytes a b → r ≡ cell_name (words s) p
  unfolding cell_name
  name_read at a b r e f g h = h ∙ rw (f, g, e) refl

  pub name_absent : length s ≤ p → name_bytes 0 0 ≡ cell_name (words s) p
  unfolding cell_name
  name_absent h =
      let n = (name_near (words s) p).0 in
      rw (word_out s (name_place (words s) p) (omega arith), word_out s (name_place (words s) p + 1) (omega arith)) refl

module _ (p a b : ℕ) (s : List ℕ) where
  pub name_put_lem : (at : ℕ) (t u : List ℕ) → at ≡ name_place (words s) p → t ≡ put_word s at a → u ≡ put_word t (at + 1) b → u ≡ name_put p a b s
  unfolding name_put
  name_put_lem at t u e f g = g ∙ rw (f, e) refl

  pub name_outside : length s ≤ p → s ≡ name_put p a b s
  unfolding name_put
  name_outside h =
      let i = name_place (words s) p in
      let n = (name_near (words s) p).0 in
      let l = length_put s i a in
      sym (put_out (put_word s i a) (i + 1) b (omega arith) ∙ put_out s i a (omega arith))
